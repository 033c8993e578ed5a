-- Four sheets, byte by byte as the rules give the format. A record has letter (80 for P, 76 for L), name length, name, and two
-- bytes for each number: phase, period and budget of a poll, span and quota of a lane.
use Rattle.std.specs.Prelude.{ℕ, List, [], ◌∷◌, ◌++◌}

-- the length in two bytes (here the high one is always 0), version 1, so many polls and so many lanes
abbrev header : ℕ → ℕ → ℕ → List ℕ
header length polls lanes = 0 ∷ length ∷ 1 ∷ polls ∷ lanes ∷ []

-- a poll of phase 0, whose name is one letter; its period in two bytes, its budget in the low one of two
abbrev poll : ℕ → ℕ → ℕ → ℕ → List ℕ
poll letter high low budget = 80 ∷ 1 ∷ letter ∷ 0 ∷ 0 ∷ high ∷ low ∷ 0 ∷ budget ∷ []

abbrev lane : ℕ → ℕ → ℕ → List ℕ
lane letter span quota = 76 ∷ 1 ∷ letter ∷ 0 ∷ span ∷ 0 ∷ quota ∷ []

-- polls of 3 in 6 and 2 in 8, and a lane of 1 in 4
abbrev pub brimful_sheet : List ℕ
brimful_sheet = header 30 2 1 ++ poll 97 0 6 3 ++ poll 98 0 8 2 ++ lane 99 4 1

-- the same with a poll of 3 in 8
abbrev pub overfull_sheet : List ℕ
overfull_sheet = header 30 2 1 ++ poll 97 0 6 3 ++ poll 98 0 8 3 ++ lane 99 4 1

-- polls of 1 in 9,999 (39 × 256 + 15) and 1 in 10,000 (39 × 256 + 16)
abbrev pub long_sheet : List ℕ
long_sheet = header 23 2 0 ++ poll 97 39 15 1 ++ poll 98 39 16 1

-- the same with a poll of 1 in 9,973 (38 × 256 + 245) behind them, whose record begins at byte 23
abbrev pub too_long_sheet : List ℕ
too_long_sheet = header 32 3 0 ++ poll 97 39 15 1 ++ poll 98 39 16 1 ++ poll 99 38 245 1

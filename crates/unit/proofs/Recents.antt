-- A deadline is pushed in front of a lane's last eight, and none of them lies too far.
use Rattle.std.proofs.Common.{◌≡◌, ℕ, zero, suc, ◌+◌, ◌-◌, ◌*◌, ◌<◌, ◌≤◌, max, min, List, [], ◌∷◌, ◌++◌, length, get_or, take, drop, set, slice_index, sym, refl, ap, ◌∙◌, ⊎_elim, arith}
use Rattle.std.proofs.lemmas.List.{take-take, take_all, drop_more, drop_all, get_or-take, length-take-le}
use Rattle.std.specs.List.{slice_rotate_right}
use Rattle.std.proofs.lemmas.Bool.{cases_lt, lt-ltb}
use Rattle.machine.specs.Limits.{most_ahead, slots_in_all}
use Rattle.machine.specs.Lanes.{ahead, clock_of}
use Rattle.unit.specs.Recents.{longest_reach, latest_deadline, GoesOn, Chained}

-- the eight places, turned by one and the first written
turned : (xs : List ℕ) (d : ℕ) → length xs ≡ 8 → set (drop 7 xs ++ take 7 xs) 0 d ≡ d ∷ take 7 xs
turned xs d l =
    let last : drop 7 xs ≡ get_or xs 7 d ∷ [] = drop_more xs 7 d (omega arith) ∙ ap (λ rest. get_or xs 7 d ∷ rest) (drop_all 8 xs (omega arith)) in
    ap (λ front. set (front ++ take 7 xs) 0 d) last

pub pushed : (xs ys : List ℕ) (count n d : ℕ) → length xs ≡ 8 → count ≤ 8 → ys ≡ slice_rotate_right xs 1 → n ≡ min 8 (count + 1) → take n (set ys 0 d) ≡ d ∷ take 7 (take count xs)
pushed xs ys count n d l h turn e =
    let seven : length xs - 1 ≡ 7 = omega arith in
    let written : set ys 0 d ≡ d ∷ take 7 xs = ap (λ zs. set zs 0 d) (turn ∙ ap (λ k. drop k xs ++ take k xs) seven) ∙ turned xs d l in
    ap (take n) written ∙ ⊎_elim fewer full (cases_lt count 8)
  where
    fewer : count < 8 → take n (d ∷ take 7 xs) ≡ d ∷ take 7 (take count xs)
    fewer f =
        let m : n ≡ suc count = omega arith in
        let short : length (take count xs) ≡ count = length-take-le count xs (omega arith) in
        ap (λ k. take k (d ∷ take 7 xs)) m ∙ ap (λ rest. d ∷ rest) (take-take count 7 xs (omega arith) ∙ sym (take_all 7 (take count xs) (omega arith)))

    full : 8 ≤ count → take n (d ∷ take 7 xs) ≡ d ∷ take 7 (take count xs)
    full f =
        let m : n ≡ 8 = omega arith in
        ap (λ k. take k (d ∷ take 7 xs)) m ∙ ap (λ rest. d ∷ rest) (take-take 7 7 xs (omega arith) ∙ sym (take-take 7 count xs (omega arith)))

-- what is pushed goes on from the newest
pub chained_push : (ds : List ℕ) (d : ℕ) → Chained ds → GoesOn ds d → Chained (take 8 (d ∷ ds))
chained_push ds d c h zero b =
    let e : get_or (take 7 ds) 0 0 ≡ get_or ds 0 0 = get_or-take 7 ds 0 0 (omega arith) in
    omega arith
chained_push ds d c h (suc i) b =
    let e : get_or (take 7 ds) i 0 ≡ get_or ds i 0 = get_or-take 7 ds i 0 (omega arith) in
    let f : get_or (take 7 ds) (suc i) 0 ≡ get_or ds (suc i) 0 = get_or-take 7 ds (suc i) 0 (omega arith) in
    omega (arith, c i (omega arith))

-- of n deadlines one has come, and each goes on from the next
near_by : (n : ℕ) (ds : List ℕ) (slot : ℕ) → slot ≤ slots_in_all → ((i : ℕ) → suc i < n → slice_index ds i ≤ max slots_in_all (slice_index ds (suc i)) + longest_reach) → ahead slot ds < n → clock_of ds + longest_reach ≤ slots_in_all + longest_reach * n
near_by zero ds slot s c h = absurd (omega arith)
near_by (suc n) [] slot s c h = omega arith
near_by (suc n) (d ∷ ds) slot s c h = ⊎_elim (come (λ less. near_by n ds slot s (λ i b. c (suc i) (omega arith)) less)) (λ l. omega arith) (cases_lt slot d)
  where
    come : (ahead slot ds < n → clock_of ds + longest_reach ≤ slots_in_all + longest_reach * n) → slot < d → d + longest_reach ≤ slots_in_all + longest_reach * suc n
    come rest l =
        let one = lt-ltb slot d l in
        let all : ahead slot (d ∷ ds) ≡ 1 + ahead slot ds = rw one refl in
        let r = rest (omega arith) in
        omega (arith, c 0 (omega arith))

-- while fewer than eight lie past the slot, the newest is near
pub near : (ds : List ℕ) (slot : ℕ) → Chained ds → slot ≤ slots_in_all → ahead slot ds < most_ahead → clock_of ds + longest_reach ≤ latest_deadline
near ds slot c s h = near_by 8 ds slot s c h

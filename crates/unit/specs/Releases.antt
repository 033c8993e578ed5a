-- The next releases of the polls: what the unit keeps so that it need not ask every poll at every slot.
use Rattle.std.specs.Prelude.{◌≡◌, ℕ, zero, suc, ◌+◌, Bool, if◌then◌else◌, ◌==◌, List, [], ◌∷◌, Some, None, Option}
use Rattle.pile.specs.Sorted.{sorted}
use Rattle.pile.specs.Piles.{bag_of}
use Rattle.admission.specs.declared.table.Poll.{Poll}
use Rattle.admission.specs.Sums.{sum_of}
use Rattle.unit.specs.declared.releases.Release.{Release}
use Rattle.unit.specs.declared.releases.Releases.{Releases}
use Rattle.unit.specs.ReleaseOrder.{earlier}

-- the next releases, in order
abbrev pub releases_of : Releases → List Release
releases_of releases = bag_of earlier releases.area releases.count

-- a poll's first release that does not come before a slot: its phase, and once that has come, a period later
unfoldable pub next_release : ℕ → Poll → ℕ
next_release zero poll = poll.phase
next_release (suc slot) poll = if next_release slot poll == slot then slot + poll.period else next_release slot poll

-- those of polls that are numbered from i on
unfoldable pub next_releases : ℕ → ℕ → List Poll → List Release
next_releases slot i [] = []
next_releases slot i (poll ∷ polls) = record { slot = next_release slot poll; poll = i } ∷ next_releases slot (suc i) polls

-- the first slot whose releases have not been put yet
abbrev pub upto : ℕ → Bool → ℕ
upto slot is_open = if is_open then suc slot else slot

-- in step with the polls: of each of them the next release from the slot on
abbrev pub InStep : List Release → List Poll → ℕ → Type 0
InStep releases polls slot = releases ≡ sorted earlier (next_releases slot 0 polls)

-- how many are due at a slot
abbrev pub due_count : ℕ → List Release → ℕ
due_count slot releases = sum_of (λ release. if release.slot == slot then 1 else 0) releases

-- the poll of the first, if that is due at a slot
abbrev pub first_due : ℕ → List Release → Option ℕ
first_due slot [] = None
first_due slot (release ∷ releases) = if release.slot == slot then Some release.poll else None

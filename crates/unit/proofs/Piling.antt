-- The pile of releases: it has one for each poll, and is filled poll by poll.
use Rattle.std.proofs.Common.{◌≡◌, ℕ, suc, ◌+◌, ◌<◌, ◌≤◌, inl, inr, Some, None, Option, List, [], ◌∷◌, ◌++◌, length, get_or, take, sym, refl, ap, ◌∙◌, arith}
use Rattle.std.proofs.lemmas.List.{length-take-le, take_more, take_all}
use Rattle.std.proofs.lemmas.Option.{slice_get_cases, get_or_from_slice_get}
use Rattle.std.specs.List.{slice_get}
use Rattle.pile.specs.Sorted.{insert, sorted}
use Rattle.pile.proofs.Inserting.{length_sorted, sorted_none}
use Rattle.pile.proofs.Sorting.{sorted_push}
use Rattle.admission.specs.declared.table.Poll.{Poll}
use Rattle.unit.specs.declared.releases.Release.{Release}
use Rattle.unit.specs.declared.releases.Releases.{Releases}
use Rattle.unit.specs.ReleaseOrder.{earlier, earlier_total}
use Rattle.unit.specs.Releases.{next_release, next_releases, releases_of, due_count}
use Rattle.unit.proofs.Releasing.{due_most}

pub releases_count : (releases : Releases) → length (releases_of releases) ≡ releases.count
releases_count releases =
    let within = releases.piled.within in
    length_sorted earlier (take releases.count releases.area) ∙ length-take-le releases.count releases.area (omega arith)

-- never more are due than the pile has
pub fits_all : (releases : Releases) (slot free : ℕ) → releases.count ≤ free → due_count slot (releases_of releases) ≤ free
fits_all releases slot free h = let n = releases_count releases in let most = due_most slot (releases_of releases) in omega arith

length_next : (slot i : ℕ) (polls : List Poll) → length (next_releases slot i polls) ≡ length polls
unfolding next_releases
length_next slot i [] = refl
length_next slot i (poll ∷ polls) = let rest = length_next slot (suc i) polls in omega arith

next_push : (slot i : ℕ) (polls : List Poll) (poll : Poll) → next_releases slot i (polls ++ poll ∷ []) ≡ next_releases slot i polls ++ record { slot = next_release slot poll; poll = i + length polls } ∷ []
unfolding next_releases
next_push slot i [] poll = let e : i ≡ i + 0 = omega arith in ap (λ n. record { slot = next_release slot poll; poll = n } ∷ []) e
next_push slot i (first ∷ polls) poll =
    let rest = next_push slot (suc i) polls poll in
    let e : suc i + length polls ≡ i + suc (length polls) = omega arith in
    ap (λ l. record { slot = next_release slot first; poll = i } ∷ l) (rest ∙ ap (λ n. next_releases slot (suc i) polls ++ record { slot = next_release slot poll; poll = n } ∷ []) e)

-- at first a poll's next release is its phase
pub first_release : (poll : Poll) → next_release 0 poll ≡ poll.phase
unfolding next_release
first_release poll = refl

pub none_passed : sorted earlier (next_releases 0 0 []) ≡ []
unfolding next_releases
none_passed = sorted_none earlier

pub one_more : (polls : List Poll) (i : ℕ) (poll : Poll) → i < length polls → poll ≡ get_or polls i poll → sorted earlier (next_releases 0 0 (take (i + 1) polls)) ≡ insert earlier (record { slot = poll.phase; poll = i }) (sorted earlier (next_releases 0 0 (take i polls)))
one_more polls i poll l e =
    let n : 0 + length (take i polls) ≡ i = (let m = length-take-le i polls (omega arith) in omega arith) in
    let at : Release = record { slot = poll.phase; poll = i } in
    let this : next_releases 0 0 (take (i + 1) polls) ≡ next_releases 0 0 (take i polls) ++ at ∷ [] =
    ap (next_releases 0 0) (take_more polls i poll l ∙ ap (λ p. take i polls ++ p ∷ []) (sym e)) ∙ next_push 0 0 (take i polls) poll
    ∙ (λ k. next_releases 0 0 (take i polls) ++ record { slot = first_release poll k; poll = n k } ∷ []) in
    ap (sorted earlier) this ∙ sorted_push earlier earlier_total (next_releases 0 0 (take i polls)) at

-- what is found under a number, and what is not found lies past the end
pub found : {X : Type 0} (xs : List X) (i at : ℕ) (d : X) (o : Option X) (x : X) → at ≡ i → o ≡ slice_get xs at → o ≡ Some x → get_or xs i d ≡ x
found xs i at d o x here read some = get_or_from_slice_get xs i x d (ap (slice_get xs) (sym here) ∙ sym read ∙ some)

not_found_by : {X : Type 0} (xs : List X) (i : ℕ) → slice_get xs i ≡ None → length xs ≤ i
not_found_by xs i e = elim (slice_get_cases xs i).1 [
  | inl here ↦ absurd (let clash : Some here.0 ≡ None = sym here.2 ∙ e in let z : ◌≡◌ {A = ℕ} 0 1 = cc in omega arith)
  | inr past ↦ past.0
]

pub not_found : {X : Type 0} (xs : List X) (i at : ℕ) (o : Option X) → at ≡ i → o ≡ slice_get xs at → o ≡ None → length xs ≤ i
not_found xs i at o here read none = not_found_by xs i (ap (slice_get xs) (sym here) ∙ sym read ∙ none)

pub all_passed : (polls : List Poll) (i : ℕ) → length polls ≤ i → sorted earlier (next_releases 0 0 (take i polls)) ≡ sorted earlier (next_releases 0 0 polls)
all_passed polls i h = ap (λ l. sorted earlier (next_releases 0 0 l)) (take_all i polls h)

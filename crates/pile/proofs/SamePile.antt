-- A pile whose area is the same after a call is the same pile: that it is piled is a fact, which has one proof at most.
use Rattle.std.proofs.Common.{◌≡◌, ◌<◌, ◌⊎◌, Bool, true, false, List, length, inl, inr, MatchBool, arith}
use Rattle.std.proofs.Props.{props}
use mathlib.Core.HLevel.{is_prop→PathP}
use Rattle.pile.specs.declared.pile.Pile.{Pile}
use Rattle.pile.specs.Piles.{Piled}

module _ {X : Type 0} {order : _} (pile : Pile X order) where
  -- a pile has a place for each element, so there is no first only in an empty one
  pub no_first : (pile.count ≡ 0) ⊎ (length pile.area.now < pile.count) → pile.count ≡ 0
  no_first none = let within = pile.piled.within in elim none [ inl e ↦ e | inr l ↦ absurd (omega arith) ]

  module _ (area : List X) (piled : Piled order.before area pile.count) where
    abbrev after : Pile X order
    after = record { area = record pile.area { now = area }; count = pile.count; piled = piled }

    pub same_pile : area ≡ pile.area.now → after ≡ pile
    same_pile same = λ i. record {
      area = record pile.area { now = same i };
      count = pile.count;
      piled = is_prop→PathP (λ j. Piled order.before (same j) pile.count) (λ j. Prim.hlevel props) piled pile.piled i;
    }

    pub or_nothing_done : (Done : Type 0) (done : Bool) → MatchBool done Done (((pile.count ≡ 0) ⊎ (length pile.area.now < pile.count)) × (area ≡ pile.area.now)) →
        MatchBool done Done ((pile.count ≡ 0) × (after ≡ pile))
    or_nothing_done Done true h = h
    or_nothing_done Done false h = (no_first h.0, same_pile h.1)

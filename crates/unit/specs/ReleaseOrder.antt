-- The order of releases, with its law, which the pile of them asks for.
use Rattle.std.specs.Prelude.{Bool}
use Rattle.pile.specs.Order.{Total, by, by_then}
use Rattle.pile.proofs.Ordering.{by_one_way, by_chain, by_same, then_one_way, then_chain, then_same}
use Rattle.unit.specs.declared.releases.Release.{Release}

-- by slot, then by poll number
unfoldable pub earlier : Release → Release → Bool
earlier = by_then (λ release. release.slot) (by (λ release. release.poll))

pub earlier_total : Total earlier
unfolding earlier
earlier_total = record {
  one_way = then_one_way (λ (release : Release). release.slot) (by (λ (release : Release). release.poll)) (by_one_way (λ (release : Release). release.poll));
  chain = then_chain (λ (release : Release). release.slot) (by (λ (release : Release). release.poll)) (by_chain (λ (release : Release). release.poll));
  same = λ x y h k.
      let p = then_same (λ (release : Release). release.slot) (by (λ (release : Release). release.poll)) x y h k in
      let q = by_same (λ (release : Release). release.poll) x y p.1 p.2 in
      (λ i. record { slot = p.0 i; poll = q i });
}

-- What an answer that is no fault says of the tests on the way to it.
use Rattle.std.proofs.Common.{◌≡◌, ℕ, Bool, true, false, cond, Ok, Err, Result, refl, arith}
use Rattle.sheet.specs.Reading.{next}

pub no_fault : {A E : Type 0} (x : A) (e : E) → ◌≡◌ {A = Result A E} (Err e) (Ok x) → ⊥
no_fault x e p = let z : ◌≡◌ {A = ℕ} 0 1 = cc in omega arith

pub ok_same : {A E : Type 0} (x y : A) → ◌≡◌ {A = Result A E} (Ok x) (Ok y) → x ≡ y
ok_same x y p = cc

pub cond_ok : {A E : Type 0} (b : Bool) (r : Result A E) (e : E) (x : A) → cond b r (Err e) ≡ Ok x → (b ≡ true) × (r ≡ Ok x)
cond_ok true r e x h = (refl, h)
cond_ok false r e x h = absurd (no_fault x e h)

pub next_ok : {A B E : Type 0} (r : Result A E) (f : A → Result B E) (y : B) → next r f ≡ Ok y → (x : A) × (r ≡ Ok x) × (f x ≡ Ok y)
next_ok (Ok x) f y h = (x, refl, h)
next_ok (Err e) f y h = absurd (no_fault y e h)

-- Places are a kind: they keep its laws, and have no order.
use Rattle.std.specs.Prelude.{◌≡◌, ℕ, false, T, ℤ, pos, Some, decimal, nat_lt, refl}
use Rattle.std.proofs.Common.{ap, subst, arith, ltb→lt}
use Rattle.std.proofs.Math.Dec.{T_prop}
use Rattle.std.proofs.lemmas.Bool.{false≢true, cond-true, lt-ltb}
use Rattle.kind.specs.Group.{Laws, Quantities}
use Rattle.kind.specs.Meaning.{Meaning}
use Rattle.kinds.specs.declared.places.PlaceLatency.{PlaceLatency}
use Rattle.kinds.specs.Places.{cycle, Place, around, plus, minus, clamped, Within, reads}

abbrev numbered : (n : ℕ) → T (nat_lt n cycle) → Place
numbered n s = record { number = n; small = s }

-- one number, one place
pub same_number : (x y : Place) → x.number ≡ y.number → x ≡ y
same_number x y e =
    let Same : ℕ → Type 0 = λ n. (s : T (nat_lt n cycle)) → x ≡ numbered n s in
    subst Same e (λ s. ap (numbered x.number) (T_prop _ x.small s)) y.small

pub group : Laws Place (around 0) plus minus
group = record {
  assoc = λ x y z. same_number _ _ (omega arith);
  comm = λ x y. same_number _ _ (omega arith);
  left = λ x. same_number _ _ (omega (arith, ltb→lt _ _ x.small));
  inv = λ x. same_number _ _ (omega (arith, ltb→lt _ _ x.small));
  some = (around 1, λ e. omega (arith, ap (λ (x : Place). x.number) e));
}

abbrev places : Quantities
places = record { Q = Place; zero = around 0; plus = plus; minus = minus; laws = group }

pub ranged : (l : PlaceLatency) → (z : ℤ) × (reads z ≡ Some (around (clamped l.place)))
ranged l = (pos (clamped l.place), cond-true _ _ _ (lt-ltb (clamped l.place) cycle (omega arith)))

abbrev pub place_meaning : Meaning PlaceLatency ℕ
place_meaning = record {
  quantities = places;
  ordered = false;
  below = λ _. false;
  order = λ e. absurd (false≢true e);
  flat = λ _ _. refl;
  latency = λ l. around (clamped l.place);
  total = around;
  within = Within;
  wider = λ _ _ _ _ h. h;
  reads = reads;
  ranged = ranged;
  text = λ q. decimal q.number;
}

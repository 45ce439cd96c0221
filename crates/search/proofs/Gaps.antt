-- What a step adds to an offset.
use Rattle.std.proofs.Common.{◌≡◌, ℕ, ◌-◌, ◌≤◌, List, ◌∷◌, length, get_or, sym, refl, ap, ◌∙◌}
use Rattle.kind.specs.Group.{Quantities}
use Rattle.kind.specs.Meaning.{Meaning}
use Rattle.network.specs.declared.Step.{Step}
use Rattle.network.specs.declared.Step.TheVariants.{Forward, Backward}
use Rattle.network.specs.Offsets.{tally, difference}
use Rattle.network.proofs.Sums.{sums}
use Rattle.search.specs.declared.link.Link.{Link as Record}
use Rattle.search.specs.Settled.{worth, gap}
use Rattle.search.proofs.Wiring.{link_at}

pub tally_worth : (K : Quantities) (d : ℕ → K.Q) (s : Step) (ss : List Step) → tally K d (s ∷ ss) ≡ K.plus (worth K d s) (tally K d ss)
tally_worth K d (Forward p) ss = refl
tally_worth K d (Backward p) ss = refl

forth : (K : Quantities) (x m w : K.Q) → K.plus x (K.plus m (K.minus w)) ≡ K.plus x (K.minus (K.plus w (K.minus m)))
forth K x m w = simp sums

aback : (K : Quantities) (x m w : K.Q) → K.plus x (K.plus w (K.minus m)) ≡ K.plus x (K.minus (K.minus (K.plus w (K.minus m))))
aback K x m w = simp sums

module _ {L T : Type 0} (M : Meaning L T) (links : List (Record L)) (p : ℕ) (r : Record L) (a : 1 ≤ p) (b : p ≤ length links) (e : r ≡ get_or links (p - 1) r) (x : M.quantities.Q) (s : Step) where
  pub forward : s ≡ Forward p → M.quantities.plus x (M.quantities.plus (M.latency r.measured) (M.quantities.minus (M.latency r.wanted))) ≡ M.quantities.plus x (M.quantities.minus (worth M.quantities (gap M links) s))
  forward q = forth M.quantities x (M.latency r.measured) (M.latency r.wanted) ∙ sym (ap (λ l. M.quantities.plus x (M.quantities.minus (difference M.quantities l))) (link_at M links p r a b e)) ∙ sym (ap (λ s. M.quantities.plus x (M.quantities.minus (worth M.quantities (gap M links) s))) q)

  pub backward : s ≡ Backward p → M.quantities.plus x (M.quantities.plus (M.latency r.wanted) (M.quantities.minus (M.latency r.measured))) ≡ M.quantities.plus x (M.quantities.minus (worth M.quantities (gap M links) s))
  backward q = aback M.quantities x (M.latency r.measured) (M.latency r.wanted) ∙ sym (ap (λ l. M.quantities.plus x (M.quantities.minus (M.quantities.minus (difference M.quantities l)))) (link_at M links p r a b e)) ∙ sym (ap (λ s. M.quantities.plus x (M.quantities.minus (worth M.quantities (gap M links) s))) q)

-- what lies between a switch and its root, by its first step
pub onto : (K : Quantities) (d : ℕ → K.Q) (s : Step) (ss : List Step) (x : K.Q) → x ≡ K.minus (tally K d ss) → K.plus x (K.minus (worth K d s)) ≡ K.minus (tally K d (s ∷ ss))
onto K d s ss x e = ap (λ y. K.plus y (K.minus (worth K d s))) e ∙ regroup (worth K d s) (tally K d ss) ∙ ap K.minus (sym (tally_worth K d s ss))
  where
    regroup : (a b : K.Q) → K.plus (K.minus b) (K.minus a) ≡ K.minus (K.plus a b)
    regroup a b = simp sums

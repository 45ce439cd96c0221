-- One more link among the groups and in the forest.
use Rattle.std.proofs.Common.{◌≡◌, ℕ, zero, suc, ◌+◌, ◌-◌, ◌<◌, List, [], ◌∷◌, length, get_or, None, sym, refl, ap, ◌∙◌, subst, add-one, arith}
use Rattle.network.specs.Graph.{Graph, Connected, Upto}
use Rattle.network.specs.declared.Step.TheVariants.{Forward, Backward}
use Rattle.network.specs.Climb.{Forest}
use Rattle.network.proofs.Growth.{skip, no_links}
use Rattle.network.proofs.Graph.{back}
use Rattle.search.specs.Parents.{parents}
use Rattle.search.specs.Records.{graph_of, On, Sound}
use Rattle.search.specs.declared.link.Link.{Link as Record}
use Rattle.search.specs.Joined.{label, Labelled, Joined}
use Rattle.search.specs.Grouped.{Leader, under, Grouped}
use Rattle.search.proofs.Wiring.{wired}
use Rattle.search.proofs.Labels.{apart, stay, merge}
use Rattle.search.proofs.Groups.{led, not_led}

-- the link at k joins i and j
module _ {L : Type 0} (links : List (Record L)) (k n : ℕ) (room : k < length links) (sound : Sound n links) (i j : ℕ) (ei : i ≡ (graph_of links).from (k + 1)) (ej : j ≡ (graph_of links).to (k + 1)) where
  ends : On n ((graph_of links).from (k + 1)) × On n ((graph_of links).to (k + 1))
  ends = wired n (k + 1) links (omega arith) sound (k + 1) (omega arith) (omega arith)

  pub on_i : On n i
  on_i = subst (On n) (sym ei) ends.0

  pub on_j : On n j
  on_j = subst (On n) (sym ej) ends.1

  -- a leads i, and b leads j
  module _ (l : ℕ → ℕ) (H : Labelled (graph_of links) k n l) (a b : ℕ) (ea : a ≡ l i) (eb : b ≡ l j) where
    a_is : a ≡ l ((graph_of links).from (k + 1))
    a_is = ea ∙ ap l ei

    b_is : b ≡ l ((graph_of links).to (k + 1))
    b_is = eb ∙ ap l ej

    near : a ≡ b → Connected (graph_of links) (Upto k) ((graph_of links).from (suc k)) ((graph_of links).to (suc k))
    near e = subst (λ m. Connected (graph_of links) (Upto k) ((graph_of links).from m) ((graph_of links).to m)) (add-one k) ((H ((graph_of links).from (k + 1)) ((graph_of links).to (k + 1)) ends.0 ends.1).0 (sym a_is ∙ e ∙ b_is))

    pub stays : a ≡ b → Labelled (graph_of links) (k + 1) n l
    stays e = subst (λ m. Labelled (graph_of links) m n l) (sym (add-one k)) (stay (graph_of links) k n l H (near e))

    pub skips : (up : List ℕ) → Forest (graph_of links) k (parents up) → a ≡ b → Forest (graph_of links) (k + 1) (parents up)
    skips up f e = subst (λ m. Forest (graph_of links) m (parents up)) (sym (add-one k)) (skip (graph_of links) k (parents up) f (near e))

    pub not_near : (a ≡ b → ⊥) → Connected (graph_of links) (Upto k) ((graph_of links).from (k + 1)) ((graph_of links).to (k + 1)) → ⊥
    not_near d c = d (a_is ∙ (H ((graph_of links).from (k + 1)) ((graph_of links).to (k + 1)) ends.0 ends.1).1 c ∙ sym b_is)

    pub not_back : (a ≡ b → ⊥) → Connected (graph_of links) (Upto k) ((graph_of links).to (k + 1)) ((graph_of links).from (k + 1)) → ⊥
    not_back d c = not_near d (back (graph_of links) (Upto k) ((graph_of links).to (k + 1)) ((graph_of links).from (k + 1)) c)

    taken : (x y u w : ℕ) → x ≡ l u → y ≡ l w → (v : ℕ) → On n v → (l v ≡ l u → under l x y v ≡ l w) × ((l v ≡ l u → ⊥) → under l x y v ≡ l v)
    taken x y u w p q v o = (λ e. led l x y v (e ∙ sym p) ∙ q, λ d. not_led l x y v (λ e. d (e ∙ p)))

    pub forward : Labelled (graph_of links) (k + 1) n (under l a b)
    forward = subst (λ m. Labelled (graph_of links) m n (under l a b)) (sym (add-one k)) (merge (graph_of links) k n l (under l a b) (Forward (k + 1)) (add-one k) ends.0 ends.1 H (taken a b ((graph_of links).from (k + 1)) ((graph_of links).to (k + 1)) a_is b_is))

    pub backward : Labelled (graph_of links) (k + 1) n (under l b a)
    backward = subst (λ m. Labelled (graph_of links) m n (under l b a)) (sym (add-one k)) (merge (graph_of links) k n l (under l b a) (Backward (k + 1)) (add-one k) ends.1 ends.0 H (taken b a ((graph_of links).to (k + 1)) ((graph_of links).from (k + 1)) b_is a_is))

pub none_grouped : (g : Graph) (n : ℕ) (labels ranks up : List ℕ) → ((v : ℕ) → v < n → get_or labels v 0 ≡ v + 1) → ((v : ℕ) → get_or ranks v 0 ≡ 0) → ((v : ℕ) → get_or up v 0 ≡ 0) → Grouped g 0 n labels ranks up
none_grouped g n labels ranks up h r u =
    record {
      forest = no_links g (parents up) at;
      rising = record { inside = λ v o. subst (On n) (sym (own v o)) o; rises = λ v o d. absurd (d (own v o)); low = λ v o. omega (arith, r (v - 1)) };
      leader = λ v. v;
      leads = record { along = own; top = λ v o e. refl };
      labelled = apart g n (λ v. v) (λ v o. refl);
    }
  where
    own : (v : ℕ) → On n v → label labels v ≡ v
    own v o = h (v - 1) (omega (arith, o.0, o.1)) ∙ omega (arith, o.0)

    at : (v : ℕ) → parents up v ≡ None
    at zero = refl
    at (suc v) = ap (λ w. parents (w ∷ []) 1) (u v)

-- pointers straight to the leaders are labels
pub all_joined : (g : Graph) (k n : ℕ) (labels ranks up labels' : List ℕ) → length labels ≡ n → Grouped g k n labels ranks up → ((v : ℕ) → On (length labels) v → On (length labels) (label labels' v)) → ((l : ℕ → ℕ) → Leader (length labels) (label labels) l → (v : ℕ) → On (length labels) v → label labels' v ≡ l v) → Joined g k n labels' up
all_joined g k n labels ranks up labels' same G within flat = record { forest = G.forest; inside = subst (λ m. (v : ℕ) → On m v → On m (label labels' v)) same within; labelled = λ u v a b. let h = G.labelled u v a b in (λ e. h.0 (sym (at u a) ∙ e ∙ at v b), λ c. at u a ∙ h.1 c ∙ sym (at v b)) }
  where
    at : (v : ℕ) → On n v → label labels' v ≡ G.leader v
    at v o = flat G.leader (subst (λ m. Leader m (label labels) G.leader) (sym same) G.leads) v (subst (λ m. On m v) (sym same) o)

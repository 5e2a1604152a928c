-- The spots of a request are exactly the stands of its rows. Assumes nothing.
use Rattle.std.proofs.Common.{◌≡◌, ℕ, ◌<◌, ◌⊎◌, List, [], ◌∷◌, map, get_or, Some, None, Option, sym, refl, ap, ◌∙◌, subst, inl, inr, ⊎_elim, arith}
use mathlib.Core.List.Memᴰ
use mathlib.Core.List.{Memᴰ}
use Rattle.std.proofs.lemmas.Bool.{eqb-true, eq-eqb}
use Rattle.model.specs.declared.decision.Cause.TheVariants.{UnknownTag}
use Rattle.model.specs.Order.{Sorted}
use Rattle.model.specs.Content.{Element, Request}
use Rattle.model.specs.Spelling.{OtherTag}
use Rattle.model.specs.Lists.{At, Pairwise}
use Rattle.model.specs.Tree.{Tree, count, Limits, Distance, Extent}
use Rattle.model.specs.Rows.{Listed, Listing, listings, category_of, of_category, categories, widths, chosen, Scope, scope, bare, for_node, put_bare, put_named, Basis, Spot, single_spot, fault_spot, resource, lists, unknown, faulty, itself, below}
use Rattle.model.specs.Meaning.{ListedAt, Choice, Chosen, Bare, AtNode, Chooses, NoResource, Resource, PutBare, PutNamed, Stand, Stands}
use Rattle.model.proofs.Members.{map_map, Finds, finds}
use Rattle.model.proofs.Positions.{at_same, at_get_d, get_d_at, pairwise_is, pairwise_maps, some_same, none_some}
use Rattle.model.proofs.Distances.{ends_at_node}
use Rattle.model.proofs.Choices.{Within}
use Rattle.model.proofs.Asked.{scope_means, asked_node, fault_is, alone_is, asks_is}
use Rattle.model.proofs.SpotOf.{IsSpotOf, stand_of}
use Rattle.model.proofs.Picked.{Apart, apart_picked}
use Rattle.model.proofs.Put.{bare_of, bare_is, at_node_of, at_node_is}
use Rattle.model.proofs.Named.{numbers, reference_means, lists_is, unknown_is}
use Rattle.model.proofs.Chosen.{numbered_pair, chooses_of, chosen_only}

-- THE RESOURCE AMONG THE CHOSEN

found_none : (ks : List Listed) → resource ks ≡ None → NoResource (map numbered_pair ks)
found_none ks e x m c =
    let f = subst (Finds (of_category 1) ks) e (finds (of_category 1) ks) in
    let r = Memᴰ.of_map numbered_pair ks m in
    f r.0 r.1 (eq-eqb (category_of r.0) 1 (ap (λ (y : ℕ × Element). y.1.category) r.2 ∙ c))

found_some : (ks : List Listed) (l : Listed) → resource ks ≡ Some l → Resource (map numbered_pair ks) l.number l.element
found_some ks l e =
    let f = subst (Finds (of_category 1) ks) e (finds (of_category 1) ks) in
    (Memᴰ.map numbered_pair f.0, eqb-true (category_of l) 1 f.1)

none_found : (ks : List Listed) → NoResource (map numbered_pair ks) → resource ks ≡ None
none_found ks n = step (resource ks) refl
  where
    step : (o : Option Listed) → resource ks ≡ o → o ≡ None
    step None e = refl
    step (Some l) e = let r = found_some ks l e in absurd (n (l.number, l.element) r.0 r.1)

-- of distinct categories, no two elements have the same
apart_same : (ks : List Listed) → Sorted Apart ks → (x y : Listed) → Memᴰ x ks → Memᴰ y ks → category_of x ≡ category_of y → x ≡ y
apart_same [] s x y m n e = absurd (Memᴰ.not-nil m)
apart_same (k ∷ ks) s x y m n e = ⊎_elim
    (λ p. ⊎_elim (λ q. p ∙ sym q) (λ t. absurd (s.0 y t (ap category_of (sym p) ∙ e))) (Memᴰ.cases_cons n))
    (λ t. ⊎_elim (λ q. absurd (s.0 x t (ap category_of (sym q) ∙ sym e))) (λ u. apart_same ks s.1 x y t u e) (Memᴰ.cases_cons n))
    (Memᴰ.cases_cons m)

abbrev FoundAs : List Listed → ℕ → Element → Type 0
FoundAs ks n e = (l : Listed) × (resource ks ≡ Some l) × (l.number ≡ n) × (l.element ≡ e)

some_found : (ks : List Listed) → Sorted Apart ks → (n : ℕ) (e : Element) → Resource (map numbered_pair ks) n e → FoundAs ks n e
some_found ks s n e h = step (resource ks) refl
  where
    step : (o : Option Listed) → resource ks ≡ o → FoundAs ks n e
    step None q = absurd (found_none ks q (n, e) h.0 h.1)
    step (Some l) q =
        let f = subst (Finds (of_category 1) ks) q (finds (of_category 1) ks) in
        let r = Memᴰ.of_map numbered_pair ks h.0 in
        let c : category_of r.0 ≡ 1 = ap (λ (y : ℕ × Element). y.1.category) r.2 ∙ h.1 in
        let x = apart_same ks s l r.0 f.0 r.1 (eqb-true (category_of l) 1 f.1 ∙ sym c) in (
          l,
          q,
          ap (λ (y : Listed). y.number) x ∙ ap (λ (y : ℕ × Element). y.0) r.2,
          ap (λ (y : Listed). y.element) x ∙ ap (λ (y : ℕ × Element). y.1) r.2,
        )

-- THE ELEMENTS THAT ARE PUT

bare_all : (ks : List Listed) → PutBare (map numbered_pair ks) (map put_bare ks)
bare_all ks = pairwise_maps (λ (e : ℕ × Element) b. Bare e.1 b) numbered_pair put_bare ks (λ l m. bare_of l.element)

all_bare : (ks : List Listed) (bs : List Element) → PutBare (map numbered_pair ks) bs → map put_bare ks ≡ bs
all_bare ks bs p =
    sym (pairwise_is (λ (e : ℕ × Element) b. Bare e.1 b) (λ (e : ℕ × Element). bare e.1) (λ e b h. bare_is e.1 b h) p
    ∙ map_map (λ (e : ℕ × Element). bare e.1) numbered_pair ks)

node_all : (t : List ℕ) (ks : List Listed) → PutNamed t (map numbered_pair ks) (map (put_named t) ks)
node_all t ks = pairwise_maps (λ (e : ℕ × Element) b. AtNode t e.1 b) numbered_pair (put_named t) ks (λ l m. at_node_of t l.element)

all_node : (t : List ℕ) (ks : List Listed) (bs : List Element) → PutNamed t (map numbered_pair ks) bs → map (put_named t) ks ≡ bs
all_node t ks bs p =
    sym (pairwise_is (λ (e : ℕ × Element) b. AtNode t e.1 b) (λ (e : ℕ × Element). for_node t e.1) (λ e b h. at_node_is t e.1 b h) p
    ∙ map_map (λ (e : ℕ × Element). for_node t e.1) numbered_pair ks)

-- STANDS

module _ (q : Request) (tree : Tree) (limits : Limits tree) (apart : Sorted OtherTag q.elements) where
  chooses : (r : ℕ) (ls : List Listed) (ps : List ℕ) → At r (lists ls) (listings q) → Within ps (widths ls)
      → Chooses q r ps (map numbered_pair (chosen ls ps))
  chooses r ls ps a c = let h = reference_means q r (lists ls) a in chooses_of q ls h.1 r ps h.0 c

  -- a node that is reached is one of the tree's
  reached_node : (e : Element) (x : Extent) (a n d : ℕ) → scope tree e ≡ below x a → Distance tree a n d → n < count tree
  reached_node e x a n d s h = ends_at_node tree a limits n d (asked_node tree e x a s) h.0

  -- each spot is a stand
  pub stands_of : (s : Spot) (d : ℕ) → IsSpotOf q tree s d → Stands q tree (stand_of (s, d)) s.basis
  stands_of s d (IsSpotOf.bad_reference {r} {p} a) = Stands.bad_reference (reference_means q r (unknown p) a)
  stands_of s d (IsSpotOf.no_resource {r} {ls} {ps} a c e) =
      Stands.without_resource (chooses r ls ps a c) (found_none (chosen ls ps) e) (bare_all (chosen ls ps))
  stands_of s d (IsSpotOf.bad_scope {r} {c = k} {ls} {ps} {l} a c e f) =
      Stands.bad_scope (chooses r ls ps a c) (found_some (chosen ls ps) l e) (scope_means tree l.element (faulty k) f)
  stands_of s d (IsSpotOf.whole {r} {ls} {ps} {l} a c e f) =
      Stands.without_node (chooses r ls ps a c) (found_some (chosen ls ps) l e) (scope_means tree l.element itself f) (bare_all (chosen ls ps))
  stands_of s d (IsSpotOf.at_node {r} {a = b} {n} {d = j} {ls} {ps} {l} {x} a c e f h i) =
      Stands.at_node (chooses r ls ps a c) (found_some (chosen ls ps) l e) (scope_means tree l.element (below x b) f) h i
      (get_d_at [] n tree.names (reached_node l.element x b n j f h)) (node_all (get_or tree.names n []) (chosen ls ps))

  -- a spot that stands there, and rests on the same
  pub record Spotted (st : Stand) (b : Basis) : Type 0 where
    pub spot : Spot
    pub distance : ℕ
    pub is_spot : IsSpotOf q tree spot distance
    pub same_stand : stand_of (spot, distance) ≡ st
    pub same_basis : spot.basis ≡ b

  -- what a choice of a reference comes to among the computed listings
  pub record Chose (r : ℕ) (ps : List ℕ) (es : List (ℕ × Element)) : Type 0 where
    pub ls : List Listed
    pub at : At r (lists ls) (listings q)
    pub within : Within ps (widths ls)
    pub these : es ≡ map numbered_pair (chosen ls ps)

  chose : (r : ℕ) (ps : List ℕ) (es : List (ℕ × Element)) → Chooses q r ps es → Chose r ps es
  chose r ps es h =
      let x = lists_is q apart r h.listed h.lists in
      let e : h.listed ≡ numbers x.0 = sym x.2 in
      let c = chosen_only q x.0 x.3 h.categories ps h.chosen es
      (subst (λ ns. Choice q ns h.categories ps) e h.choice)
      (subst (λ ns. Chosen q ns h.categories ps h.chosen) e h.picks)
      (subst (λ ns. Pairwise (λ p (e : ℕ × Element). ListedAt q ns p e.0 e.1) h.chosen es) e h.elements) in
      record { ls = x.0; at = x.1; within = c.0; these = c.1 }

  -- the resource that was found
  found_as : (r : ℕ) (ps : List ℕ) (es : List (ℕ × Element)) (c : Chose r ps es) (n : ℕ) (e : Element) → Resource es n e
      → FoundAs (chosen c.ls ps) n e
  found_as r ps es c n e h =
      some_found (chosen c.ls ps) (apart_picked (categories [] c.ls) ps [] c.ls) n e
      (subst (λ (xs : List (ℕ × Element)). Resource xs n e) c.these h)

  -- each stand is that of a spot
  pub spotted : (st : Stand) (b : Basis) → Stands q tree st b → Spotted st b
  spotted st b (Stands.bad_reference {r} {p} u) =
      record {
        spot = fault_spot r None UnknownTag p;
        distance = 0;
        is_spot = IsSpotOf.bad_reference (unknown_is q apart r p u);
        same_stand = refl;
        same_basis = refl;
      }
  spotted st b (Stands.bad_scope {r} {n} {c = k} {ps} {es} {e} h x f) =
      let c = chose r ps es h in
      let l = found_as r ps es c n e x in
      record {
        spot = fault_spot r (Some ps) k l.0.number;
        distance = 0;
        is_spot = IsSpotOf.bad_scope c.at c.within l.1 (ap (scope tree) l.3 ∙ fault_is tree e k f);
        same_stand = refl;
        same_basis = ap (Basis.fault k) l.2;
      }
  spotted st b (Stands.without_resource {r} {ps} {es} {bs} h x p) =
      let c = chose r ps es h in
      record {
        spot = single_spot tree r ps (chosen c.ls ps) None;
        distance = 0;
        is_spot = IsSpotOf.no_resource c.at c.within (none_found (chosen c.ls ps) (subst NoResource c.these x));
        same_stand = refl;
        same_basis = ap Basis.single (all_bare (chosen c.ls ps) bs (subst (λ (xs : List (ℕ × Element)). PutBare xs bs) c.these p));
      }
  spotted st b (Stands.without_node {r} {n} {ps} {es} {e} {bs} h x a p) =
      let c = chose r ps es h in
      let l = found_as r ps es c n e x in
      record {
        spot = single_spot tree r ps (chosen c.ls ps) None;
        distance = 0;
        is_spot = IsSpotOf.whole c.at c.within l.1 (ap (scope tree) l.3 ∙ alone_is tree e a);
        same_stand = refl;
        same_basis = ap Basis.single (all_bare (chosen c.ls ps) bs (subst (λ (xs : List (ℕ × Element)). PutBare xs bs) c.these p));
      }
  spotted st b (Stands.at_node {r} {n} {a} {m} {d} {ps} {es} {e} {x = y} {name} {bs} h x k i j t p) =
      let c = chose r ps es h in
      let l = found_as r ps es c n e x in
      let t' = get_or tree.names m [] in
      let put : PutNamed t' es bs = subst (λ u. PutNamed u es bs) (sym (at_get_d [] t)) p in
      let at : PutNamed t' (map numbered_pair (chosen c.ls ps)) bs =
      subst (λ (xs : List (ℕ × Element)). PutNamed t' xs bs) c.these put in
      record {
        spot = single_spot tree r ps (chosen c.ls ps) (Some m);
        distance = d;
        is_spot = IsSpotOf.at_node {x = y} c.at c.within l.1 (ap (scope tree) l.3 ∙ asks_is tree e limits y a k) i j;
        same_stand = refl;
        same_basis = ap Basis.single (all_node t' (chosen c.ls ps) bs at);
      }

  -- THE DISTANCE OF A ROW'S NODE

  -- a spot with a node: where it comes from
  record Noded (s : Spot) (d : ℕ) : Type 0 where
    pub ls : List Listed
    pub ps : List ℕ
    pub l : Listed
    pub x : Extent
    pub asked : ℕ
    pub node : ℕ
    pub at : At s.reference (lists ls) (listings q)
    pub choice : s.choice ≡ Some ps
    pub has_node : s.node ≡ Some node
    pub has_resource : resource (chosen ls ps) ≡ Some l
    pub asks : scope tree l.element ≡ below x asked
    pub far : Distance tree asked node d

  noded : (s : Spot) (d : ℕ) → IsSpotOf q tree s d → ((s.node ≡ None) × (d ≡ 0)) ⊎ Noded s d
  noded s d (IsSpotOf.bad_reference a) = inl (refl, refl)
  noded s d (IsSpotOf.no_resource a c e) = inl (refl, refl)
  noded s d (IsSpotOf.bad_scope a c e f) = inl (refl, refl)
  noded s d (IsSpotOf.whole a c e f) = inl (refl, refl)
  noded s d (IsSpotOf.at_node {r} {a = b} {n} {d = j} {ls} {ps} {l} {x} a c e f h i) =
      inr (record {
        ls = ls;
        ps = ps;
        l = l;
        x = x;
        asked = b;
        node = n;
        at = a;
        choice = refl;
        has_node = refl;
        has_resource = e;
        asks = f;
        far = h;
      })

  abbrev list_in : Listing → List Listed
  list_in (lists ls) = ls
  list_in (unknown p) = []

  abbrev node_in : Scope → ℕ
  node_in (faulty c) = 0
  node_in itself = 0
  node_in (below x a) = a

  same_noded : (s t : Spot) (d e : ℕ) → Noded s d → Noded t e → s.reference ≡ t.reference → s.choice ≡ t.choice → s.node ≡ t.node → d ≡ e
  same_noded s t d e x y a b c =
      let u : x.ls ≡ y.ls = ap list_in (at_same x.at (subst (λ r. At r (lists y.ls) (listings q)) (sym a) y.at)) in
      let v : x.ps ≡ y.ps = some_same s.choice x.ps y.ps x.choice (b ∙ y.choice) in
      let n : x.node ≡ y.node = some_same s.node x.node y.node x.has_node (c ∙ y.has_node) in
      let w = ap (λ ks. resource (chosen ks x.ps)) u ∙ (ap (λ ks. resource (chosen y.ls ks)) v ∙ y.has_resource) in
      let l : x.l ≡ y.l = some_same (resource (chosen x.ls x.ps)) x.l y.l x.has_resource w in
      let k : x.asked ≡ y.asked = ap node_in (sym x.asks ∙ (ap (λ (j : Listed). scope tree j.element) l ∙ y.asks)) in
      let f : Distance tree x.asked x.node e =
      subst (λ j. Distance tree x.asked j e) (sym n) (subst (λ j. Distance tree j y.node e) (sym k) y.far) in
      let g = x.far.1 e f.0 in
      let h = f.1 d x.far.0 in
      omega arith

  -- reference, choice and node settle the distance
  pub same_distance : (s t : Spot) (d e : ℕ) → IsSpotOf q tree s d → IsSpotOf q tree t e → s.reference ≡ t.reference → s.choice ≡ t.choice
      → s.node ≡ t.node → d ≡ e
  same_distance s t d e x y a b c = ⊎_elim
      (λ u. ⊎_elim (λ v. omega (arith, u.1, v.1)) (λ v. absurd (none_some s.node v.node u.0 (c ∙ v.has_node))) (noded t e y))
      (λ u. ⊎_elim (λ v. absurd (none_some t.node u.node v.0 (sym c ∙ u.has_node))) (λ v. same_noded s t d e u v a b c) (noded t e y))
      (noded s d x)

-- What a worker's own move leaves of its invariant, over cells that stay.
use Rattle.std.proofs.Common.{◌≡◌, ℕ, zero, suc, ◌+◌, ◌<◌, ◌≤◌, Bool, true, false, ◌⊎◌, List, [], ◌∷◌, sym, refl, ap, ◌∙◌, subst, inl, inr, arith}
use mathlib.Core.Path.{fun_ext}
use Rattle.rules.proofs.Heap.{upd, black, grey, none, source, under, Cells, Fresh, Claimed, Is, Traced, S, s_source, s_claimed, s_black, s_old, s_grey, Rooted, r_source, r_under}
use Rattle.rules.proofs.CellInvariant.{Global, Done}
use Rattle.rules.proofs.WalkerInvariant.{Mem, Full, Scanning, Between, Walk, Seen, Nodes, InSet, Places, Sweep}
use Rattle.rules.proofs.Basics.{upd_here, upd_other, same?, back}
use Rattle.rules.proofs.Copies.{copies}
use Rattle.rules.proofs.Carrying.{bool?, colour?, keeps_refl, claimed_in_set, nodes_kept, seen_kept}

pub mem_copies : (at : ℕ → ℕ) (k n z : ℕ) → Mem z (copies at k n) → (j : ℕ) × (k ≤ j) × (j < k + n) × (at j ≡ z)
mem_copies at k zero z m = absurd m
mem_copies at k (suc n) z (inl e) = (k, omega arith, omega arith, sym e)
mem_copies at k (suc n) z (inr m) = let r = mem_copies at (suc k) n z m in (r.0, omega arith, omega arith, r.3)

pub copies_mem : (at : ℕ → ℕ) (k n j z : ℕ) → k ≤ j → j < k + n → at j ≡ z → Mem z (copies at k n)
copies_mem at k zero j z a b e = absurd (omega arith)
copies_mem at k (suc n) j z a b e = elim (same? j k) [
  | inl p ↦ inl (sym e ∙ ap at p)
  | inr q ↦ inr (copies_mem at (suc k) n j z (omega arith) (omega arith) e)
]

module _ (In : ℕ → Type 0) (c : Cells) (g : Global In c) where
  claimed_in : (z : ℕ) → Claimed c z → In z
  claimed_in z k = claimed_in_set In c g z k

  s_in : (z : ℕ) → S c z → In z
  s_in z s = g.inside z (g.white_s z s)

  not_grey : (z : ℕ) → Claimed c z → (Is c grey z → ⊥) → Done c z
  not_grey z k n = elim (colour? (c.colour z))
      [ inl e ↦ absurd (n e) | inr (inl e) ↦ (k.0, e) | inr (inr e) ↦ absurd (g.white_s z (s_claimed k) e) ]

  pub own101 : (s : ℕ → Bool) → Scanning In c s → ((x : ℕ) → In x → s x ≡ false) → Full In c
  own101 s b n x i = elim (b x i) [ inl e ↦ (let q = n x i in grind arith) | inr f ↦ f ]

  pub own108 : (s : ℕ → Bool) (x : ℕ) → Scanning In c (upd s x true) → Fresh c x → Scanning In c s
  own108 s x b f z i = elim (same? z x) [ inl p ↦ inr (grind arith) | inr n ↦ elim (b z i) [ inl e ↦ inl (back s x true z n e) | inr e ↦ inr e ] ]

  pub own121 : (all : ℕ → Bool) → ((x : ℕ) → In x → all x ≡ true) → Full In c → Between In c all all
  own121 all h b = record {
    tracing = record { full = b; claimed = λ x i e. absurd (let q = h x i in grind arith); later = λ z v i e r. h z i };
    painted = λ z i e. inl (h z i);
    waiting = λ z i e r. h z i;
  }

  pub own122_take : (s u : ℕ → Bool) (x : ℕ) → u x ≡ true → Between In c s u → Between In c s (upd (upd u x false) x true)
  own122_take s u x m b = record {
    tracing = b.tracing;
    painted = λ z i e. elim (b.painted z i e) [ inl p ↦ inl (grind arith) | inr p ↦ inr p ];
    waiting = λ z i e p. b.waiting z i e (grind arith);
  }

  -- when no start is left, no cell that is claimed is grey
  claimed_black : (s u : ℕ → Bool) → Between In c s u → ((x : ℕ) → In x → u x ≡ false) → {z : ℕ} → Rooted c z → Is c grey z → ⊥
  claimed_black s u b n (r_source {x} f e) q =
      let i : In x = g.inside x (λ p. grind arith) in
      elim (b.painted x i e) [ inl p ↦ (let r = n x i in grind arith) | inr p ↦ grind arith ]
  claimed_black s u b n (r_under {x} {w} f e r) q =
      claimed_black s u b n r (g.grey_father x w (f, λ p. grind arith) q e)

  settled_s : (s u : ℕ → Bool) → Between In c s u → ((x : ℕ) → In x → u x ≡ false) → {z : ℕ} → S c z → Is c grey z → ⊥
  settled_s s u b n (s_source {x} m h) q = m (g.grey_fresh x q)
  settled_s s u b n (s_claimed {x} k) q = claimed_black s u b n (g.rooted x k) q
  settled_s s u b n (s_black f e) q = grind arith
  settled_s s u b n (s_old {x} r m t) q = m (b.tracing.full x (s_in x r))
  settled_s s u b n (s_grey r f e t) q = settled_s s u b n r e

  pub own122_none : (s u : ℕ → Bool) → Between In c s u → ((x : ℕ) → In x → u x ≡ false) → Sweep In c s
  own122_none s u b n = record {
    full = b.tracing.full;
    settled = λ z r e. settled_s s u b n r e;
    left = λ z e. elim (bool? (s z)) [
      | inl p ↦ p
      | inr p ↦ absurd (settled_s s u b n (s_claimed (b.tracing.claimed z (g.inside z (λ q. grind arith)) p)) e)
    ];
  }

  pub own126_no : (s u : ℕ → Bool) (x : ℕ) → Between In c s (upd u x true) → (c.father x ≡ source → ⊥) → Between In c s u
  own126_no s u x b n = record {
    tracing = b.tracing;
    painted = λ z i e. elim (b.painted z i e) [ inl p ↦ inl (grind arith) | inr p ↦ inr p ];
    waiting = λ z i e p. b.waiting z i e (grind arith);
  }

  pub own150 : (s u : ℕ → Bool) (x : ℕ) → Between In c s (upd u x true) → In x → u x ≡ false → c.father x ≡ source
      → Walk In c (upd s x false) u (upd (λ _. false) x true) [] x
  own150 s u x b i m e =
      let t = b.tracing in
      let sx : s x ≡ true = b.waiting x i e (grind arith) in
      record {
        tracing = record {
          full = t.full;
          claimed = λ z j p. elim (same? z x) [ inl q ↦ (t.full z j, λ r. grind arith) | inr q ↦ t.claimed z j (grind arith) ];
          later = λ z v j p r. (let q : s z ≡ true = t.later z v j (grind arith) r in grind arith);
        };
        x_in = i;
        painted = λ z j p. elim (b.painted z j p) [ inl q ↦ elim (same? z x) [ inl r ↦ inr (inr r) | inr r ↦ inl (grind arith) ] | inr q ↦ inr (inl q) ];
        waiting = λ z j p q. (let r : s z ≡ true = b.waiting z j p (grind arith) in grind arith);
        going = inl (grind arith);
        following = λ z p. ((let q : z ≡ x = grind arith in (t.full z (subst In (sym q) i), λ r. grind arith)), grind arith);
        later_too = λ z v j p r. (let q : v ≡ x = grind arith in let q2 : s z ≡ true = t.later z v j (grind arith) r in grind arith);
      }

  retaken : (f : ℕ → Bool) (v : ℕ) → f v ≡ true → f ≡ upd (upd f v false) v true
  retaken f v e = fun_ext (λ z. grind arith)

  pub own151_take : (s u f : ℕ → Bool) (vs : List ℕ) (x v : ℕ) → f v ≡ true → Walk In c s u f vs x × Nodes c s (InSet f) vs
      → Walk In c s u (upd (upd f v false) v true) vs x × Nodes c s (InSet (upd (upd f v false) v true)) vs × (upd f v false v ≡ false)
  own151_take s u f vs x v e b = (
    subst (λ (h : ℕ → Bool). Walk In c s u h vs x) (retaken f v e) b.0,
    subst (λ (h : ℕ → Bool). Nodes c s (InSet h) vs) (retaken f v e) b.1,
    upd_here f v false,
  )

  pub own157_no : (s u f : ℕ → Bool) (vs : List ℕ) (x v : ℕ) → (Is c grey v → Fresh c v → ⊥)
      → Walk In c s u (upd f v true) vs x → Nodes c s (InSet (upd f v true)) vs → Walk In c s u f vs x × Nodes c s (InSet f) vs
  own157_no s u f vs x v n b m =
      let k : Claimed c v = (b.following v (grind arith)).0 in
      let d : Done c v = not_grey v k (λ e. n e k.0) in (
        record {
          tracing = b.tracing;
          x_in = b.x_in;
          painted = b.painted;
          waiting = b.waiting;
          going = elim b.going [
            | inl p ↦ elim (same? x v) [ inl q ↦ inr (inr (ap c.colour q ∙ d.1)) | inr q ↦ inl (back f v true x q p) ]
            | inr p ↦ inr p
          ];
          following = λ z p. b.following z (grind arith);
          later_too = λ z w i p r. b.later_too z w i (grind arith) r;
        },
        nodes_kept c c (keeps_refl c) s s (λ z e. e) (InSet (upd f v true)) (InSet f)
            (λ z. elim (same? z v) [ inl q ↦ inl (subst (Done c) (sym q) d) | inr q ↦ inr (λ h. back f v true z q h) ]) vs m,
      )

  pub own157_go : (s u f : ℕ → Bool) (vs : List ℕ) (x v : ℕ) → Is c grey v → f v ≡ false
      → Walk In c s u (upd f v true) vs x → Nodes c s (InSet (upd f v true)) vs → Places In c s u f (v ∷ vs) x v (copies (c.place v) 1 (c.first v))
  own157_go s u f vs x v e fv b m =
      let a = b.following v (grind arith) in
      record {
        below = vs;
        top = refl;
        walk = record {
          tracing = b.tracing;
          x_in = b.x_in;
          painted = b.painted;
          waiting = b.waiting;
          going = elim b.going [
            | inl p ↦ elim (same? x v) [ inl q ↦ inr (inl (inl q)) | inr q ↦ inl (back f v true x q p) ]
            | inr (inl p) ↦ inr (inl (inr p))
            | inr (inr p) ↦ inr (inr p)
          ];
          following = λ z p. b.following z (grind arith);
          later_too = λ z w i p r. b.later_too z w i (grind arith) r;
        };
        nodes = nodes_kept c c (keeps_refl c) s s (λ z e. e) (InSet (upd f v true)) (λ z. InSet f z ⊎ (z ≡ v))
            (λ z. inr (λ h. elim (same? z v) [ inl q ↦ inr q | inr q ↦ inl (back f v true z q h) ])) vs m;
        w_claimed = a.0;
        w_struck = a.1;
        w_taken = fv;
        w_seen = λ z p t. inl (copies_mem (c.place v) 1 (c.first v) t.at z t.low (let h = t.high in omega arith) t.here);
        copied = λ z p. (let r = mem_copies (c.place v) 1 (c.first v) z p in inr (inr (e, record { at = r.0; low = r.1; high = omega arith; here = r.3 })));
        mine = λ z i p. inl (b.later_too z v i (grind arith) p);
      }

  copy_s : (w z : ℕ) → Claimed c w → Claimed c z ⊎ (Done c z ⊎ (Is c grey w × Traced c w z)) → S c z
  copy_s w z k (inl a) = s_claimed a
  copy_s w z k (inr (inl a)) = s_black a.0 a.1
  copy_s w z k (inr (inr a)) = s_grey (s_claimed k) k.0 a.0 a.1

  -- one place less to see to
  pub own158_seen : (s u f : ℕ → Bool) (vs : List ℕ) (x w y : ℕ) (rest : List ℕ) → Places In c s u f vs x w (y ∷ rest)
      → Seen c (InSet f) w y → Places In c s u f vs x w rest
  own158_seen s u f vs x w y rest b q = record {
    below = b.below;
    top = b.top;
    walk = b.walk;
    nodes = b.nodes;
    w_claimed = b.w_claimed;
    w_struck = b.w_struck;
    w_taken = b.w_taken;
    w_seen = λ z e t. elim (b.w_seen z e t)
        [ inl (inl p) ↦ inr (subst (Seen c (InSet f) w) (sym p) q) | inl (inr p) ↦ inl p | inr p ↦ inr p ];
    copied = λ z m. b.copied z (inr m);
    mine = b.mine;
  }

  pub own158_out : (s u f : ℕ → Bool) (vs : List ℕ) (x w y : ℕ) (rest : List ℕ) → Places In c s u f vs x w (y ∷ rest)
      → s y ≡ false → Places In c s u f vs x w rest
  own158_out s u f vs x w y rest b n =
      let i : In y = s_in y (copy_s w y b.w_claimed (b.copied y (inl refl))) in
      own158_seen s u f vs x w y rest b
      (inr (b.walk.tracing.claimed y i n, λ e. elim (b.mine y i e) [ inl p ↦ grind arith | inr p ↦ p ]))

  pub own158_end : (s u f : ℕ → Bool) (vs : List ℕ) (x w : ℕ) → Places In c s u f vs x w []
      → Walk In c s u f vs x × Nodes c s (InSet f) vs
  own158_end s u f vs x w b = (
    b.walk,
    subst (Nodes c s (InSet f)) (sym b.top)
        ((b.w_claimed, b.w_struck, λ z e t. elim (b.w_seen z e t) [ inl p ↦ absurd p | inr p ↦ p ]), b.nodes),
  )

  pub own163_no : (s u f : ℕ → Bool) (vs : List ℕ) (x w y : ℕ) (rest : List ℕ) → Places In c s u f vs x w (y ∷ rest)
      → (Is c grey y → Fresh c y → (c.father y ≡ none) ⊎ (c.father y ≡ under w) → ⊥) → Places In c s u f vs x w rest
  own163_no s u f vs x w y rest b n =
      let r : S c y = copy_s w y b.w_claimed (b.copied y (inl refl)) in
      let fy : Fresh c y = b.walk.tracing.full y (s_in y r) in
      own158_seen s u f vs x w y rest b
      (elim (colour? (c.colour y)) [
        | inl e ↦ inr ((fy, λ p. n e fy (inl p)), λ p. absurd (n e fy (inr p)))
        | inr (inl e) ↦ inl (fy, e)
        | inr (inr e) ↦ absurd (g.white_s y r e)
      ])

  -- y has been claimed by w
  pub own163_yes : (s u f : ℕ → Bool) (vs : List ℕ) (x w y : ℕ) (rest : List ℕ) → Places In c s u f vs x w (y ∷ rest)
      → s y ≡ true → Fresh c y → c.father y ≡ under w → Places In c (upd s y false) u (upd f y true) vs x w rest
  own163_yes s u f vs x w y rest b sy fy e =
      let t = b.walk.tracing in
      let ky : Claimed c y = (fy, λ p. grind arith) in
      let sw : s w ≡ false = b.w_struck in
      let fw : f w ≡ false = b.w_taken in
      let yw : (y ≡ w → ⊥) = (λ p. grind arith) in
      let one : (v : ℕ) → c.father y ≡ under v → v ≡ w = (λ v p. grind arith) in
      let hh : (z : ℕ) → InSet f z → InSet (upd f y true) z = (λ z p. grind arith) in
      record {
        below = b.below;
        top = b.top;
        walk = record {
          tracing = record {
            full = t.full;
            claimed = λ z i p. elim (same? z y) [ inl q ↦ subst (Claimed c) (sym q) ky | inr q ↦ t.claimed z i (back s y false z q p) ];
            later = λ z v i p r. let p2 : s v ≡ true = grind arith in let q : s z ≡ true = t.later z v i p2 r in
                let m : (z ≡ y → ⊥) = (λ a. let o : v ≡ w = one v (subst (λ (h : ℕ). c.father h ≡ under v) a r) in grind arith) in
                upd_other s y false z m ∙ q;
          };
          x_in = b.walk.x_in;
          painted = b.walk.painted;
          waiting = λ z i p q. let r : s z ≡ true = b.walk.waiting z i p q in let m : (z ≡ y → ⊥) = (λ a. grind arith) in upd_other s y false z m ∙ r;
          going = elim b.walk.going [ inl p ↦ inl (hh x p) | inr p ↦ inr p ];
          following = λ z p. elim (same? z y) [
            | inl q ↦ (subst (Claimed c) (sym q) ky, grind arith)
            | inr q ↦ ((b.walk.following z (back f y true z q p)).0, upd_other s y false z q ∙ (b.walk.following z (back f y true z q p)).1)
          ];
          later_too = λ z v i p r.
              let m : (z ≡ y → ⊥) = (λ a. let o : v ≡ w = one v (subst (λ (h : ℕ). c.father h ≡ under v) a r) in grind arith) in
              elim (same? v y) [
                | inl q ↦ upd_other s y false z m ∙ t.later z v i (ap s q ∙ sy) r
                | inr q ↦ upd_other s y false z m ∙ b.walk.later_too z v i (back f y true v q p) r
              ];
        };
        nodes = nodes_kept c c (keeps_refl c) s (upd s y false) (λ z p. grind arith) (λ z. InSet f z ⊎ (z ≡ w)) (λ z. InSet (upd f y true) z ⊎ (z ≡ w))
            (λ z. inr (λ h. elim h [ inl a ↦ inl (hh z a) | inr a ↦ inr a ])) b.below b.nodes;
        w_claimed = b.w_claimed;
        w_struck = upd_other s y false w (λ p. yw (sym p)) ∙ sw;
        w_taken = upd_other f y true w (λ p. yw (sym p)) ∙ fw;
        w_seen = λ z p q. elim (b.w_seen z p q) [
          | inl (inl a) ↦ inr (inr (subst (Claimed c) (sym a) ky, λ r. grind arith))
          | inl (inr a) ↦ inl a
          | inr a ↦ inr (seen_kept c c (keeps_refl c) (InSet f) (InSet (upd f y true)) (λ v. inr (hh v)) w z a)
        ];
        copied = λ z m. b.copied z (inr m);
        mine = λ z i p. elim (same? z y) [
          | inl q ↦ inr (grind arith)
          | inr q ↦ elim (b.mine z i p) [ inl a ↦ inl (upd_other s y false z q ∙ a) | inr a ↦ inr (hh z a) ]
        ];
      }

  pub own168_none : (s u f : ℕ → Bool) (x : ℕ) → Walk In c s u f [] x → ((z : ℕ) → f z ≡ false) → Between In c s u
  own168_none s u f x b n =
      let fx = n x in
      let bx : Is c black x = elim b.going [ inl p ↦ grind arith | inr (inl p) ↦ absurd p | inr (inr p) ↦ p ] in
      record {
        tracing = b.tracing;
        painted = λ z i e. elim (b.painted z i e) [ inl p ↦ inl p | inr (inl p) ↦ inr p | inr (inr p) ↦ inr (ap c.colour p ∙ bx) ];
        waiting = b.waiting;
      }

  pub own175 : (s u f : ℕ → Bool) (vs : List ℕ) (x y : ℕ) → (Is c grey y → ⊥)
      → Walk In c s u f (y ∷ vs) x → Nodes c s (InSet f) (y ∷ vs) → Walk In c s u f vs x × Nodes c s (InSet f) vs
  own175 s u f vs x y n b m =
      let d : Done c y = not_grey y m.0.0 n in (
        record {
          tracing = b.tracing;
          x_in = b.x_in;
          painted = b.painted;
          waiting = b.waiting;
          going = elim b.going [ inl p ↦ inl p | inr (inl (inl p)) ↦ inr (inr (ap c.colour p ∙ d.1)) | inr (inl (inr p)) ↦ inr (inl p) | inr (inr p) ↦ inr (inr p) ];
          following = b.following;
          later_too = b.later_too;
        },
        nodes_kept c c (keeps_refl c) s s (λ z e. e) (λ z. InSet f z ⊎ (z ≡ y)) (InSet f)
            (λ z. elim (same? z y) [ inl q ↦ inl (subst (Done c) (sym q) d) | inr q ↦ inr (λ h. elim h [ inl a ↦ a | inr a ↦ absurd (q a) ]) ]) vs m.1,
      )

  pub own129_none : (s : ℕ → Bool) → Sweep In c s → ((x : ℕ) → In x → s x ≡ false) → Full In c × ((z : ℕ) → Is c grey z → ⊥)
  own129_none s b n = (b.full, λ z e. let p = b.left z e in let q = n z (g.inside z (λ r. grind arith)) in grind arith)

  pub own129_take : (s : ℕ → Bool) (x : ℕ) → s x ≡ true → Sweep In c s → Sweep In c (upd (upd s x false) x true)
  own129_take s x m b = record { full = b.full; settled = b.settled; left = λ z e. let p = b.left z e in grind arith }

  pub own134 : (s : ℕ → Bool) (x : ℕ) → (Is c grey x → ⊥) → Sweep In c (upd s x true) → Sweep In c s
  own134 s x n b = record {
    full = b.full;
    settled = b.settled;
    left = λ z e. elim (same? z x) [ inl p ↦ absurd (n (grind arith)) | inr q ↦ back s x true z q (b.left z e) ];
  }

  -- what 175 needs to paint y
  pub seen175 : (s f : ℕ → Bool) (vs : List ℕ) (y : ℕ) → Nodes c s (InSet f) (y ∷ vs) → ((z : ℕ) → f z ≡ false) → Is c grey y
      → (z : ℕ) → Traced c y z → Done c z ⊎ (Claimed c z × (c.father z ≡ under y → ⊥))
  seen175 s f vs y m n e z t = elim (m.0.2 z e t) [ inl d ↦ inl d | inr d ↦ inr (d.0, λ r. let p = d.1 r in let q = n z in grind arith) ]

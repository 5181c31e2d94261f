-- What a change of the cells within a round leaves of a worker's invariant: all of it.
use Rattle.std.proofs.Common.{◌≡◌, ℕ, ◌≤◌, Bool, true, false, ◌⊎◌, List, [], ◌∷◌, sym, refl, ◌∙◌, subst, inl, inr, arith}
use Rattle.rules.proofs.Heap.{upd, Colour, white, black, grey, source, Cells, Claimed, Is, s_claimed}
use Rattle.rules.proofs.CellInvariant.{Global, Done, Keeps}
use Rattle.rules.proofs.Walkers.{Label, idle, l101, l108, l121, l122, l126, l150, l151, l157, l158, l163, l168, l175, l180, l129, l134, l135, l137, Worker}
use Rattle.rules.proofs.WalkerInvariant.{Scanning, Tracing, Between, Walk, Seen, Nodes, InSet, Places, Sweep, LocAt, Local}

pub bool? : (b : Bool) → (b ≡ true) ⊎ (b ≡ false)
bool? true = inl refl
bool? false = inr refl

pub colour? : (k : Colour) → (k ≡ grey) ⊎ ((k ≡ black) ⊎ (k ≡ white))
colour? grey = inl refl
colour? black = inr (inl refl)
colour? white = inr (inr refl)

pub keeps_refl : (c : Cells) → Keeps c c
keeps_refl c = record {
  same_rnd = refl;
  fresh = λ z f. f;
  father = λ z f. inl refl;
  grey_old = λ z f e. e;
  black_kept = λ z f e. e;
  traced_same = λ v z a t. t;
  traced_old = λ v z a t. t;
  s_was = λ z s. inl s;
}

pub claimed_in_set : (In : ℕ → Type 0) (c : Cells) → Global In c → (z : ℕ) → Claimed c z → In z
claimed_in_set In c g z k = g.inside z (g.white_s z (s_claimed k))

module _ (c d : Cells) (k : Keeps c d) where
  pub claimed_kept : (z : ℕ) → Claimed c z → Claimed d z
  claimed_kept z a = (k.fresh z a.0, (let b = a.1 in elim (k.father z a.0) [ inl p ↦ grind arith | inr p ↦ grind arith ]))

  pub father_same : (z : ℕ) → Claimed c z → d.father z ≡ c.father z
  father_same z a = elim (k.father z a.0) [ inl p ↦ p | inr p ↦ absurd (a.1 p.0) ]

  pub done_kept : (z : ℕ) → Done c z → Done d z
  done_kept z a = (k.fresh z a.0, k.black_kept z a.0 a.1)

  pub seen_kept : (H H' : ℕ → Type 0) → ((z : ℕ) → Done d z ⊎ (H z → H' z)) → (v z : ℕ) → Seen c H v z → Seen d H' v z
  seen_kept H H' hh v z (inl a) = inl (done_kept z a)
  seen_kept H H' hh v z (inr a) = elim (hh z) [
    | inl b ↦ inl b
    | inr f ↦ inr (claimed_kept z a.0, λ e. f (a.1 (sym (father_same z a.0) ∙ e)))
  ]

  pub nodes_kept : (s s' : ℕ → Bool) → ((z : ℕ) → s z ≡ false → s' z ≡ false) → (H H' : ℕ → Type 0) → ((z : ℕ) → Done d z ⊎ (H z → H' z))
      → (vs : List ℕ) → Nodes c s H vs → Nodes d s' H' vs
  nodes_kept s s' ss H H' hh [] n = tt
  nodes_kept s s' ss H H' hh (v ∷ vs) n =
      let a = n.0.0 in (
        (
          claimed_kept v a,
          ss v n.0.1,
          λ z e t.
              let e2 : Is c grey v = k.grey_old v a.0 e in
              seen_kept H H' hh v z (n.0.2 z e2 (k.traced_old v z e2 t)),
        ),
        nodes_kept s s' ss (λ z. H z ⊎ (z ≡ v)) (λ z. H' z ⊎ (z ≡ v))
            (λ z. elim (hh z) [ inl b ↦ inl b | inr f ↦ inr (λ h. elim h [ inl a ↦ inl (f a) | inr b ↦ inr b ]) ]) vs n.1,
      )

  module _ (In : ℕ → Type 0) (g : Global In c) (g' : Global In d) where
    -- a father that is new is of a cell that was not claimed
    tracing_kept : (s : ℕ → Bool) → Tracing In c s → Tracing In d s
    tracing_kept s t = record {
      full = λ x i. k.fresh x (t.full x i);
      claimed = λ x i e. claimed_kept x (t.claimed x i e);
      later = λ z v i e f. elim (bool? (s z)) [
        | inl p ↦ p
        | inr p ↦ t.later z v i e (sym (father_same z (t.claimed z i p)) ∙ f)
      ];
    }

    source_back : (s : ℕ → Bool) → Tracing In c s → (z : ℕ) → In z → d.father z ≡ source → c.father z ≡ source
    source_back s t z i e = elim (k.father z (t.full z i)) [ inl p ↦ grind arith | inr p ↦ grind arith ]

    between_kept : (s u : ℕ → Bool) → Between In c s u → Between In d s u
    between_kept s u b = record {
      tracing = tracing_kept s b.tracing;
      painted = λ z i e. elim (b.painted z i (source_back s b.tracing z i e)) [ inl p ↦ inl p | inr p ↦ inr (k.black_kept z (b.tracing.full z i) p) ];
      waiting = λ z i e p. b.waiting z i (source_back s b.tracing z i e) p;
    }

    walk_kept : (s u f : ℕ → Bool) (vs : List ℕ) (x : ℕ) → Walk In c s u f vs x → Walk In d s u f vs x
    walk_kept s u f vs x b = record {
      tracing = tracing_kept s b.tracing;
      x_in = b.x_in;
      painted = λ z i e. elim (b.painted z i (source_back s b.tracing z i e))
          [ inl p ↦ inl p | inr (inl p) ↦ inr (inl (k.black_kept z (b.tracing.full z i) p)) | inr (inr p) ↦ inr (inr p) ];
      waiting = λ z i e p. b.waiting z i (source_back s b.tracing z i e) p;
      going = elim b.going [ inl p ↦ inl p | inr (inl p) ↦ inr (inl p) | inr (inr p) ↦ inr (inr (k.black_kept x (b.tracing.full x b.x_in) p)) ];
      following = λ z e. (claimed_kept z (b.following z e).0, (b.following z e).1);
      later_too = λ z v i e r. elim (bool? (s z)) [
        | inl p ↦ p
        | inr p ↦ b.later_too z v i e (sym (father_same z (b.tracing.claimed z i p)) ∙ r)
      ];
    }

    places_kept : (s u f : ℕ → Bool) (vs : List ℕ) (x w : ℕ) (rest : List ℕ) → Places In c s u f vs x w rest → Places In d s u f vs x w rest
    places_kept s u f vs x w rest b = record {
      below = b.below;
      top = b.top;
      walk = walk_kept s u f vs x b.walk;
      nodes = nodes_kept s s (λ z e. e) _ _ (λ z. inr (λ h. h)) b.below b.nodes;
      w_claimed = claimed_kept w b.w_claimed;
      w_struck = b.w_struck;
      w_taken = b.w_taken;
      w_seen = λ z e t.
          let e2 : Is c grey w = k.grey_old w b.w_claimed.0 e in
          elim (b.w_seen z e2 (k.traced_old w z e2 t))
          [ inl m ↦ inl m | inr q ↦ inr (seen_kept (InSet f) (InSet f) (λ z. inr (λ h. h)) w z q) ];
      copied = λ z m. elim (b.copied z m) [
        | inl a ↦ inl (claimed_kept z a)
        | inr (inl a) ↦ inr (inl (done_kept z a))
        | inr (inr a) ↦ elim (colour? (d.colour w)) [
          | inl e ↦ inr (inr (e, k.traced_same w z a.0 a.1))
          | inr (inl e) ↦ elim (g'.black_done w z e (claimed_kept w b.w_claimed) (k.traced_same w z a.0 a.1)) [ inl q ↦ inl q | inr q ↦ inr (inl q) ]
          | inr (inr e) ↦ absurd (g'.white_s w (s_claimed (claimed_kept w b.w_claimed)) e)
        ]
      ];
      mine = λ z i e. elim (bool? (s z)) [
        | inl p ↦ inl p
        | inr p ↦ b.mine z i (sym (father_same z (b.walk.tracing.claimed z i p)) ∙ e)
      ];
    }

    grey_in : (z : ℕ) → Is d grey z → In z
    grey_in z e = g'.inside z (λ p. grind arith)

    sweep_kept : (s : ℕ → Bool) → Sweep In c s → Sweep In d s
    sweep_kept s b = record {
      full = λ x i. k.fresh x (b.full x i);
      settled = λ z r e. elim (k.s_was z r) [ inl q ↦ b.settled z q (k.grey_old z (b.full z (grey_in z e)) e) | inr q ↦ grind arith ];
      left = λ z e. b.left z (k.grey_old z (b.full z (grey_in z e)) e);
    }

    scanning_kept : (s : ℕ → Bool) → Scanning In c s → Scanning In d s
    scanning_kept s b x i = elim (b x i) [ inl p ↦ inl p | inr p ↦ inr (k.fresh x p) ]

    nodes_same : (s : ℕ → Bool) (H : ℕ → Type 0) (vs : List ℕ) → Nodes c s H vs → Nodes d s H vs
    nodes_same s H vs n = nodes_kept s s (λ z e. e) H H (λ z. inr (λ h. h)) vs n

    pub loc_kept : (w : Worker) (l : Label) → LocAt In c w l → LocAt In d w l
    loc_kept w idle b = tt
    loc_kept w l101 b = scanning_kept w.check b
    loc_kept w (l108 x) b = scanning_kept (upd w.check x true) b
    loc_kept w l121 b = λ x i. k.fresh x (b x i)
    loc_kept w l122 b = between_kept w.check w.start b
    loc_kept w (l126 x) b = (between_kept w.check (upd w.start x true) b.0, b.1, b.2)
    loc_kept w (l150 x) b = (between_kept w.check (upd w.start x true) b.0, b.1, b.2, father_same x (b.0.tracing.full x b.1, λ q. grind arith) ∙ b.3)
    loc_kept w (l151 x) b = (walk_kept w.check w.start w.follow w.stack x b.0, nodes_same w.check (InSet w.follow) w.stack b.1)
    loc_kept w (l157 x v) b = (walk_kept w.check w.start (upd w.follow v true) w.stack x b.0, nodes_same w.check (InSet (upd w.follow v true)) w.stack b.1, b.2)
    loc_kept w (l158 x v rest) b = places_kept w.check w.start w.follow w.stack x v rest b
    loc_kept w (l163 x v y rest) b = (places_kept w.check w.start w.follow w.stack x v (y ∷ rest) b.0, b.1)
    loc_kept w (l168 x) b = (walk_kept w.check w.start w.follow w.stack x b.0, nodes_same w.check (InSet w.follow) w.stack b.1, b.2)
    loc_kept w (l175 x y) b = (walk_kept w.check w.start w.follow (y ∷ w.stack) x b.0, nodes_same w.check (InSet w.follow) (y ∷ w.stack) b.1, b.2)
    loc_kept w l180 b = between_kept w.check w.start b
    loc_kept w l129 b = sweep_kept w.check b
    loc_kept w (l134 x) b = sweep_kept (upd w.check x true) b
    loc_kept w l135 b = (λ x i. k.fresh x (b.0 x i), λ z e. b.1 z (k.grey_old z (b.0 z (grey_in z e)) e))
    loc_kept w l137 b = tt

    pub local_kept : (w : Worker) → Local In c w → Local In d w
    local_kept w b = record {
      not_ahead = subst (λ (n : ℕ). w.own ≤ n) (sym k.same_rnd) b.not_ahead;
      when_in_step = λ e. loc_kept w w.label (b.when_in_step (e ∙ k.same_rnd));
    }

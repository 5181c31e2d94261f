-- Marks that hold the starts and are closed under arrows hold just what is reached.
use Rattle.std.proofs.Common.{◌≡◌, ℕ, ◌+◌, ◌<◌, ◌≤◌, List, [], ◌∷◌, ◌++◌, length, get_or, take, Some, sym, refl, ap, ◌∙◌, subst, inl, inr, append_assoc, arith}
use Rattle.std.specs.List.{sum_by, slice_get, All, Contains}
use Rattle.std.proofs.lemmas.Bool.{cases_eq}
use Rattle.std.proofs.lemmas.List.{take-append-le, take_all, take_more}
use Rattle.std.proofs.lemmas.List.Elements.{All-contains, All-push, All-weaker}
use Rattle.std.proofs.lemmas.List.Sums.{sum_by_push}
use Rattle.std.proofs.lemmas.Option.{get_or_from_slice_get, slice_get_within}
use Rattle.graph.specs.Nets.{Net, CellOf, ArrowOf, Closed, Path, stay, walk, Reached, sum_after, all_arrows}
use Rattle.graph.specs.Searches.{Marked}
use Rattle.graph.specs.Costs.{ArrowsOfReached}
use Rattle.graph.specs.Finding.{Lists, OnlyAt, Covers, JustStarts, Grows, Notes}
use Rattle.graph.proofs.Marks.{sum_most, found_marked, marked_found}

-- x is not the goal, and all its arrows end at marked cells
pub record Passed (g : Net) (goal : ℕ) (marks : List ℕ) (x : ℕ) : Type 0 where
  pub other : x ≡ goal → ⊥
  pub followed : (j : ℕ) → ArrowOf g x j → Marked marks (g.leads x j)

-- where a walk stands once `turn` of the cells found have had their turn, and `asked` arrows have been asked for
pub record Walked (g : Net) (starts : List ℕ) (goal : ℕ) (marks cells : List ℕ) (turn asked : ℕ) : Type 0 where
  pub long : length marks ≡ g.cells
  pub only : OnlyAt g.cells (Reached g (Marked starts)) marks
  pub covers : Covers g.cells starts marks
  pub passed : All (Passed g goal marks) (take turn cells)
  pub cost : asked ≡ sum_by g.arrows (take turn cells)

-- the arrows of x before j have been followed, from marks and cells to marks' and cells'
pub record Followed (g : Net) (starts : List ℕ) (x j : ℕ) (marks cells marks' cells' : List ℕ) : Type 0 where
  pub grows : Grows marks cells marks' cells'
  pub only : OnlyAt g.cells (Reached g (Marked starts)) marks'
  pub ends : (i : ℕ) → i < j → ArrowOf g x i → Marked marks' (g.leads x i)

grows_on : {a b a' b' a'' b'' : List ℕ} → Grows a b a' b' → Grows a' b' a'' b'' → Grows a b a'' b''
grows_on {a} {b} p q = record {
  long = q.long ∙ p.long;
  lasts = λ x m. q.lasts x (p.lasts x m);
  more = p.more ++ q.more;
  stands = q.stands ∙ ap (λ cs. cs ++ q.more) p.stands ∙ append_assoc b p.more q.more;
}

-- the starts are found, and none has had its turn
pub walked_none : (g : Net) (starts : List ℕ) (goal : ℕ) (marks cells : List ℕ) → length marks ≡ g.cells → JustStarts starts marks → Walked g starts goal marks cells 0 0
walked_none g starts goal marks cells long s = record {
  long = long;
  only = λ x w m. record { start = x; inside = w; starts = s.only x (w.0, omega (arith, w.1)) m; path = stay };
  covers = λ x w. s.covers x (w.0, omega (arith, w.1));
  passed = λ k d h. absurd (omega arith);
  cost = refl;
}

module _ {g : Net} {starts : List ℕ} {goal : ℕ} {marks cells : List ℕ} {turn asked : ℕ} (closed : Closed g) (w : Walked g starts goal marks cells turn asked) (lists : Lists marks cells) where
  -- no more arrows have been asked for than there are
  pub asked_most : asked ≤ all_arrows g
  asked_most = let q : sum_after g.arrows 0 (length marks) ≡ all_arrows g = ap (λ n. sum_after g.arrows 0 n) w.long in omega (arith, sum_most marks cells lists g.arrows turn, w.cost, q)

  module _ {x : ℕ} (next : slice_get cells turn ≡ Some x) where
    -- a cell whose turn comes is reached
    pub turn_reached : Reached g (Marked starts) x
    turn_reached =
        let m = found_marked marks cells lists turn (slice_get_within cells turn x next) in
        subst (λ y. Reached g (Marked starts) y) (get_or_from_slice_get cells turn x 0 next) (w.only (get_or cells turn 0) (m.0.0, omega (arith, m.0.1, w.long)) m.1)

    -- one more of its arrows is followed
    pub followed_more : {j : ℕ} {old new marks' cells' marks'' cells'' : List ℕ} → old ≡ marks → ArrowOf g x j → Followed g starts x j old new marks' cells' → Notes (g.leads x j) marks' cells' marks'' cells''
        → Followed g starts x (j + 1) old new marks'' cells''
    followed_more {j} {old} {marks'' = marks''} same a f n = record {
      grows = grows_on f.grows n.grows;
      only = λ y c m. elim (n.only y (c.0, omega (arith, c.1, f.grows.long, w.long, ap length same)) m) [
        | inl e ↦
            let r = turn_reached in
            subst (λ z. Reached g (Marked starts) z) (sym e) (record { start = r.start; inside = r.inside; starts = r.starts; path = walk x j r.path a })
        | inr before ↦ f.only y c before
      ];
      ends = λ i h b. elim (cases_eq i j) [
        | inl e ↦ subst (λ k. Marked marks'' (g.leads x k)) (sym e) n.marked
        | inr d ↦ n.grows.lasts (g.leads x i) (f.ends i (omega arith) b)
      ];
    }

    -- it has had its turn once all its arrows have been followed
    pub walked_more : {old new marks' cells' : List ℕ} {j asked' : ℕ} → (x ≡ goal → ⊥) → (old ≡ marks) × (new ≡ cells) → Followed g starts x j old new marks' cells' → j ≡ g.arrows x + 1
        → asked' ≡ asked + g.arrows x → Walked g starts goal marks' cells' (turn + 1) asked'
    walked_more {marks' = marks'} {cells' = cells'} other same f end cost =
        let lt = slice_get_within cells turn x next in
        let front : take (turn + 1) cells' ≡ take turn cells ++ x ∷ [] =
        ap (take (turn + 1)) (f.grows.stands ∙ ap (λ cs. cs ++ f.grows.more) same.1) ∙ take-append-le (turn + 1) cells f.grows.more (omega arith)
        ∙ take_more cells turn 0 lt ∙ ap (λ y. take turn cells ++ y ∷ []) (get_or_from_slice_get cells turn x 0 next) in
        let lasts : (y : ℕ) → Marked marks y → Marked marks' y = λ y m. f.grows.lasts y (rw same.0 m) in
        let P : ℕ → Type 0 = Passed g goal marks' in
        record {
          long = f.grows.long ∙ ap length same.0 ∙ w.long;
          only = f.only;
          covers = λ y c m. lasts y (w.covers y c m);
          passed = subst (All P) (sym front) (All-push P (take turn cells) x
              (All-weaker (Passed g goal marks) P (λ y p. record { other = p.other; followed = λ i a. lasts (g.leads y i) (p.followed i a) }) (take turn cells) w.passed)
              (record { other = other; followed = λ i a. f.ends i (omega (arith, a.1)) a }));
          cost = let q = ap (sum_by g.arrows) front in omega (arith, q, sum_by_push g.arrows (take turn cells) x, w.cost);
        }

  -- once every cell found has had its turn, what is reached is marked, and the goal is not among it
  module _ (end : length cells ≤ turn) where
    passed : (x : ℕ) → CellOf g x → Marked marks x → Passed g goal marks x
    passed x c m =
        let at = marked_found marks cells lists x (c.0, omega (arith, c.1, w.long)) m in
        All-contains (Passed g goal marks) (take turn cells) x w.passed (subst (λ cs. Contains cs x) (sym (take_all turn cells end)) at)

    along : {x y : ℕ} → Path g x y → CellOf g x → Marked marks x → CellOf g y × Marked marks y
    along stay c m = (c, m)
    along (walk y j p a) c m = let r = along p c m in ((closed y j a).1, (passed y r.0 r.1).followed j a)

    complete : (x : ℕ) → Reached g (Marked starts) x → CellOf g x × Marked marks x
    complete x r = along r.path r.inside (w.covers r.start r.inside r.starts)

    pub missed : Reached g (Marked starts) goal → ⊥
    missed r = let e = complete goal r in (passed goal e.0 e.1).other refl

    pub all_asked : ArrowsOfReached g (Marked starts) asked
    all_asked = record {
      strip = marks;
      only = w.only;
      all = λ x r. (complete x r).1;
      sum = w.cost ∙ ap (sum_by g.arrows) (take_all turn cells end) ∙ lists g.arrows;
    }

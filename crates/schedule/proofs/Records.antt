-- A record as its parts, and the call that it says.
use Rattle.std.proofs.Common.{◌≡◌, ℕ, zero, suc, ◌+◌, ◌<◌, ◌≤◌, Bool, true, false, List, [], ◌∷◌, ◌++◌, length, get_or, take, drop, replicate, Some, None, Option, sym, refl, ap, ◌∙◌, subst, inl, inr, append_assoc, arith}
use Rattle.std.proofs.lemmas.Bool.Decides.{nat_tests}
use Rattle.schedule.specs.declared.call.Call.{Call}
use Rattle.schedule.specs.declared.call.Call.TheVariants.{Make}
use Rattle.schedule.specs.declared.call.Children.{Children}
use Rattle.schedule.specs.declared.call.CallRecord.{CallRecord}
use Rattle.schedule.specs.declared.fault.Fault.{Fault}
use Rattle.schedule.specs.declared.fault.Fault.TheVariants.{PastEnd, WrongMap}
use Rattle.schedule.specs.declared.record.Fields.{Fields}
use Rattle.schedule.specs.Tests.{FailsFirst}
use Rattle.schedule.specs.Operations.{Known}
use Rattle.schedule.specs.Calls.{Counted, record_tests, Writable, said, record_of, by_numbers}
use Rattle.schedule.specs.Format.{bit, when, own_fields, map_byte, field_bytes, spelled, differs}
use Rattle.schedule.specs.Reading.{gives_worker, lead, span, size, tests, said_count, RecordRead}
use Rattle.schedule.specs.Parts.{Chosen, FieldsRead, WorkerRead}
use Rattle.schedule.proofs.Padded.{listed_padded}

-- what holds of each of the eleven operations holds of every known one
pub by_operation : (P : ℕ → Type 0) → P 1 → P 2 → P 3 → P 4 → P 5 → P 6 → P 7 → P 8 → P 9 → P 10 → P 11 → (o : ℕ) → Known o → P o
by_operation P a b c d e f g h i j k zero (low, high) = absurd (omega arith)
by_operation P a b c d e f g h i j k (suc zero) _ = a
by_operation P a b c d e f g h i j k (suc (suc zero)) _ = b
by_operation P a b c d e f g h i j k (suc (suc (suc zero))) _ = c
by_operation P a b c d e f g h i j k (suc (suc (suc (suc zero)))) _ = d
by_operation P a b c d e f g h i j k (suc (suc (suc (suc (suc zero))))) _ = e
by_operation P a b c d e f g h i j k (suc (suc (suc (suc (suc (suc zero)))))) _ = f
by_operation P a b c d e f g h i j k (suc (suc (suc (suc (suc (suc (suc zero))))))) _ = g
by_operation P a b c d e f g h i j k (suc (suc (suc (suc (suc (suc (suc (suc zero)))))))) _ = h
by_operation P a b c d e f g h i j k (suc (suc (suc (suc (suc (suc (suc (suc (suc zero))))))))) _ = i
by_operation P a b c d e f g h i j k (suc (suc (suc (suc (suc (suc (suc (suc (suc (suc zero)))))))))) _ = j
by_operation P a b c d e f g h i j k (suc (suc (suc (suc (suc (suc (suc (suc (suc (suc (suc zero))))))))))) _ = k
by_operation P a b c d e f g h i j k (suc (suc (suc (suc (suc (suc (suc (suc (suc (suc (suc (suc n)))))))))))) (low, high) = absurd (omega arith)

pub no_both : {A : Type 0} → false ≡ true → A
no_both e = let z : ◌≡◌ {A = ℕ} 0 1 = cc in absurd (omega arith)

-- only a Make has a list
abbrev ListOfMake : ℕ → Type 0
ListOfMake o = (own_fields o).list ≡ true → o ≡ 4

pub list_of_make : (o : ℕ) → Known o → ListOfMake o
list_of_make = by_operation ListOfMake no_both no_both no_both (λ _. refl) no_both no_both no_both no_both no_both no_both no_both

-- a record that spells the same and passes the same tests
pub record Like (r s : CallRecord) : Type 0 where
  pub by_op : r.operation ≡ s.operation
  pub by_worker : r.worker ≡ s.worker
  pub by_count : r.operation ≡ 4 → r.list.count ≡ s.list.count
  pub by_bytes : (g : Bool) → spelled g r ≡ spelled g s
  pub by_said : said r ≡ said s

-- the call that a record says has a record like it
abbrev SaysLike : ℕ → Type 0
SaysLike o =
    (w x y : ℕ) (l : Children) (n : ℕ) (c : Call)
    → (o ≡ 4 → Counted l) → said (by_numbers o w x y l n) ≡ Some c → Like (record_of c) (by_numbers o w x y l n)

like_by : (r : CallRecord) (a c : Call) → Some a ≡ Some c → Like (record_of a) r → Like (record_of c) r
like_by r a c e h =
    let same : a ≡ c = cc in
    let P : Call → Type 0 = λ d. Like (record_of d) r in
    subst P same h

-- a Make's bytes, over the cells of its list
abbrev spelled_make : Bool → ℕ → ℕ → ℕ → List ℕ → List ℕ
spelled_make g w x n cells = map_byte (own_fields 4) g ∷ 4 ∷ (when g (w ∷ []) ++ (x ∷ n ∷ (cells ++ [])))

says_like : (o : ℕ) → Known o → SaysLike o
says_like =
    by_operation SaysLike
    (λ w x y l n c ok e. like_by _ _ c e (record { by_op = refl; by_worker = refl; by_count = λ h. absurd (omega arith); by_bytes = λ g. refl; by_said = refl }))
    (λ w x y l n c ok e. like_by _ _ c e (record { by_op = refl; by_worker = refl; by_count = λ h. absurd (omega arith); by_bytes = λ g. refl; by_said = refl }))
    (λ w x y l n c ok e. like_by _ _ c e (record { by_op = refl; by_worker = refl; by_count = λ h. absurd (omega arith); by_bytes = λ g. refl; by_said = refl }))
    (λ w x y l n c ok e.
    like_by _ _ c e
    (record {
      by_op = refl;
      by_worker = refl;
      by_count = λ h. refl;
      by_bytes = λ g. ap (λ (cells : List ℕ). spelled_make g w x l.count cells) (listed_padded l.count l.cells (ok refl).1);
      by_said = ap (λ (cells : List ℕ). Some (Make w x (record { count = l.count; cells = take 8 (cells ++ replicate 8 0) }))) (listed_padded l.count l.cells (ok refl).1);
    }))
    (λ w x y l n c ok e. like_by _ _ c e (record { by_op = refl; by_worker = refl; by_count = λ h. absurd (omega arith); by_bytes = λ g. refl; by_said = refl }))
    (λ w x y l n c ok e. like_by _ _ c e (record { by_op = refl; by_worker = refl; by_count = λ h. absurd (omega arith); by_bytes = λ g. refl; by_said = refl }))
    (λ w x y l n c ok e. like_by _ _ c e (record { by_op = refl; by_worker = refl; by_count = λ h. absurd (omega arith); by_bytes = λ g. refl; by_said = refl }))
    (λ w x y l n c ok e. like_by _ _ c e (record { by_op = refl; by_worker = refl; by_count = λ h. absurd (omega arith); by_bytes = λ g. refl; by_said = refl }))
    (λ w x y l n c ok e. like_by _ _ c e (record { by_op = refl; by_worker = refl; by_count = λ h. absurd (omega arith); by_bytes = λ g. refl; by_said = refl }))
    (λ w x y l n c ok e. like_by _ _ c e (record { by_op = refl; by_worker = refl; by_count = λ h. absurd (omega arith); by_bytes = λ g. refl; by_said = refl }))
    (λ w x y l n c ok e. like_by _ _ c e (record { by_op = refl; by_worker = refl; by_count = λ h. absurd (omega arith); by_bytes = λ g. refl; by_said = refl }))

pub said_like : (r : CallRecord) (c : Call) → Writable r → said r ≡ Some c → Like (record_of c) r
said_like r c ok e = says_like r.operation ok.0 r.worker r.cell r.second r.list r.steps c ok.1.0 e

-- the bytes after the worker
lead_tail : (g : Bool) (m o w : ℕ) (tail : List ℕ) → drop (2 + bit g) (m ∷ o ∷ (when g (w ∷ []) ++ tail)) ≡ tail
lead_tail true m o w tail = refl
lead_tail false m o w tail = refl

lead_long : (g : Bool) (m o w : ℕ) (tail : List ℕ) → length (m ∷ o ∷ (when g (w ∷ []) ++ tail)) ≡ 2 + bit g + length tail
lead_long true m o w tail = omega arith
lead_long false m o w tail = omega arith

lead_third : (g : Bool) (m o w : ℕ) (tail : List ℕ) → g ≡ true → get_or (m ∷ o ∷ (when g (w ∷ []) ++ tail)) 2 0 ≡ w
lead_third true m o w tail e = refl
lead_third false m o w tail e = no_both e

lead_at : (g : Bool) (m o w k : ℕ) (tail : List ℕ) → get_or (m ∷ o ∷ (when g (w ∷ []) ++ tail)) (2 + bit g + k) 0 ≡ get_or tail k 0
lead_at true m o w k tail = let e : 3 + k ≡ suc (suc (suc k)) = omega arith in rw e
lead_at false m o w k tail = let e : 2 + k ≡ suc (suc k) = omega arith in rw e

different : (v w : ℕ) → (v ≡ w → ⊥) → true ≡ differs (Some v) w
different v w n = grind (arith, nat_tests)

pub same_worker : (v w : ℕ) → v ≡ w → false ≡ differs (Some v) w
same_worker v w e = grind (arith, nat_tests)

-- a worker that is given just where it has to be
given_is_differs : (g : Bool) (before : Option ℕ) (w : ℕ) → (before ≡ None → g ≡ true) → (g ≡ false → before ≡ Some w) → ((g ≡ true) × (before ≡ Some w) → ⊥) → g ≡ differs before w
given_is_differs true None w first last spare = refl
given_is_differs true (Some v) w first last spare = different v w (λ e. spare (refl, ap Some e))
given_is_differs false None w first last spare = no_both (first refl)
given_is_differs false (Some v) w first last spare = let e : Some v ≡ Some w = last refl in let same : v ≡ w = cc in same_worker v w same

-- a record that was taken apart
module _ (before : Option ℕ) (m o w : ℕ) (after rest tail : List ℕ) (f : Fields)
    (chosen : Chosen before m after f) (next : after ≡ o ∷ rest) (worker : WorkerRead before m rest w tail) where
  together : m ∷ after ≡ m ∷ o ∷ (when (gives_worker m) (w ∷ []) ++ tail)
  together = ap (λ (l : List ℕ). m ∷ l) (next ∙ ap (λ (l : List ℕ). o ∷ l) worker.0)

  operation_is : get_or after 0 0 ≡ o
  operation_is = ap (λ (l : List ℕ). get_or l 0 0) next

  same_span : span (own_fields (get_or after 0 0)) (drop (lead m) (m ∷ after)) ≡ span f tail
  same_span = ap (λ (l : List ℕ). span (own_fields (get_or after 0 0)) l) (ap (drop (lead m)) together ∙ lead_tail (gives_worker m) m o w tail) ∙ ap (λ k. span k tail) (sym chosen.own)

  whole_length : length (m ∷ after) ≡ lead m + length tail
  whole_length = ap length together ∙ lead_long (gives_worker m) m o w tail

  -- the fields run past the end
  pub runs_past : length tail < span f tail → FailsFirst (tests before (m ∷ after)) PastEnd
  runs_past h = inr (chosen.plain, inr (omega (arith, chosen.present), inr (chosen.known, inr (chosen.fits, inl ((λ le. omega (arith, le, same_span, whole_length, h)), refl)))))

  pub third_is : gives_worker m ≡ true → get_or (m ∷ after) 2 0 ≡ w
  third_is g = ap (λ (l : List ℕ). get_or l 2 0) together ∙ lead_third (gives_worker m) m o w tail g

  count_is : said_count (m ∷ after) ≡ get_or tail 1 0
  count_is = ap (λ (l : List ℕ). get_or l (lead m + 1) 0) together ∙ lead_at (gives_worker m) m o w 1 tail

  -- the record that was read, and the bytes after it
  module _ (r : CallRecord) (left : List ℕ) (read : FieldsRead f o w tail r left) where
    pub fits_in : size (m ∷ after) ≤ length (m ∷ after)
    fits_in = omega (arith, same_span, whole_length, read.there)

    -- the worker need not have been given
    pub needless_worker : gives_worker m ≡ true → before ≡ Some w → FailsFirst (tests before (m ∷ after)) WrongMap
    needless_worker g e =
        inr (chosen.plain, inr (omega (arith, chosen.present), inr (chosen.known, inr (chosen.fits, inr (fits_in, inl ((λ no. no (g, e ∙ ap Some (sym (third_is g)))), refl))))))

    pub make_count : o ≡ 4 → r.list.count ≡ said_count (m ∷ after)
    make_count four =
        let P : Fields → Type 0 = λ k. k.list ≡ true → r.list.count ≡ get_or tail (bit k.cell + bit k.second) 0 in
        let own : f ≡ own_fields 4 = chosen.own ∙ ap own_fields (operation_is ∙ four) in
        subst P own read.counted refl ∙ sym count_is

    -- the list has a wrong count
    pub wrong_count : ((gives_worker m ≡ true) × (before ≡ Some w) → ⊥) → (e : Fault) → FailsFirst (record_tests r) e → FailsFirst (tests before (m ∷ after)) e
    wrong_count spare e (inl h) = absurd (h.0 (rw (read.by_operation, sym operation_is) chosen.known))
    wrong_count spare e (inr (k, inl h)) =
        inr (
          chosen.plain,
          inr (
            omega (arith, chosen.present),
            inr (
              chosen.known,
              inr (
                chosen.fits,
                inr (
                  fits_in,
                  inr (
                    (λ n. spare (n.0, n.1 ∙ ap Some (third_is n.0))),
                    inl (
                      (λ ok. h.0
                          (λ four. let op : o ≡ 4 = sym read.by_operation ∙ four in
                          let n = make_count op in
                          let k = ok (operation_is ∙ op) in
                          (omega (arith, n, k.0), omega (arith, n, k.1)))),
                      h.1,
                    ),
                  ),
                ),
              ),
            ),
          ),
        )
    wrong_count spare e (inr (k, inr (h, none))) = absurd none

    -- the record's bytes are those of the call that it says
    pub accepted : ((gives_worker m ≡ true) × (before ≡ Some w) → ⊥) → (c : Call) → Writable r → said r ≡ Some c → RecordRead before (m ∷ after) c left
    accepted spare c ok e =
        let like = said_like r c ok e in
        let few : f.list ≡ true → r.list.count ≤ 8 =
        (λ has. let four : o ≡ 4 = sym operation_is ∙ list_of_make (get_or after 0 0) chosen.known (ap (λ (k : Fields). k.list) (sym chosen.own) ∙ has) in
        (ok.1.0 (read.by_operation ∙ four)).1) in
        let given : gives_worker m ≡ differs before w = given_is_differs (gives_worker m) before w chosen.fits.1 worker.1 spare in
        let own : f ≡ own_fields r.operation = chosen.own ∙ ap own_fields (operation_is ∙ sym read.by_operation) in
        let map_is : m ≡ map_byte (own_fields r.operation) (gives_worker m) = chosen.fits.0 ∙ ap (λ k. map_byte k (gives_worker m)) (sym chosen.own ∙ own) in
        let g = gives_worker m in
        let spelt : m ∷ after ≡ spelled g r ++ left =
        together
        ∙ ap (λ (l : List ℕ). m ∷ o ∷ (when g (w ∷ []) ++ l)) (read.whole few)
        ∙ ap (λ (l : List ℕ). m ∷ o ∷ l) (sym (append_assoc (when g (w ∷ [])) (field_bytes f r) left))
        ∙ ap (λ (k : Fields). m ∷ o ∷ ((when g (w ∷ []) ++ field_bytes k r) ++ left)) own
        ∙ ap (λ v. m ∷ o ∷ ((when g (v ∷ []) ++ field_bytes (own_fields r.operation) r) ++ left)) (sym read.by_worker)
        ∙ ap (λ q. m ∷ q ∷ ((when g (r.worker ∷ []) ++ field_bytes (own_fields r.operation) r) ++ left)) (sym read.by_operation)
        ∙ ap (λ n. n ∷ r.operation ∷ ((when g (r.worker ∷ []) ++ field_bytes (own_fields r.operation) r) ++ left)) map_is in (
          (
            (
              rw like.by_op ok.0,
              (
                (λ four. let n = like.by_count four in let k = ok.1.0 (sym like.by_op ∙ four) in (omega (arith, n, k.0), omega (arith, n, k.1))),
                tt,
              ),
            ),
            like.by_said ∙ e,
          ),
          spelt
              ∙ ap (λ g. spelled g r ++ left) (given ∙ ap (differs before) (sym read.by_worker ∙ sym like.by_worker))
              ∙ ap (λ (l : List ℕ). l ++ left) (sym (like.by_bytes (differs before (record_of c).worker))),
        )

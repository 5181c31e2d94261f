-- The tests in their order; then the opening numbers and the records, one after another.
use Rattle.std.proofs.Common.{◌≡◌, ℕ, ◌/◌, ◌%◌, ◌^◌, ◌<◌, List, [], ◌∷◌, ◌++◌, length, None, Ok, refl, ap, ◌∙◌, inl, inr, arith, rules}
use Rattle.std.proofs.lemmas.List.{length-append}
use Rattle.std.proofs.lemmas.Result.{err_from_is_err_and}
use Rattle.schedule.specs.Format.{four_bytes, records_bytes}
use Rattle.schedule.specs.Strip.{put}
use Rattle.schedule.specs.Writing.{records_tests, Writes}
use Rattle.schedule.proofs.Puts.{put_put}
use Rattle.schedule.proofs.Rewritten.{tests_pass, written_reads_back}
use Rattle.schedule.proofs.Rows.{fails_before, fails_after, all_pass}
use Rattle.schedule.proofs.write.write.Goals as goal

four : (n : ℕ) (bs : List ℕ) → n < 2 ^ 32 → bs ≡ (n / 16777216 % 256) ∷ (n / 65536 % 256) ∷ (n / 256 % 256) ∷ (n % 256) ∷ [] → bs ≡ four_bytes n
four n bs h e = let top : n / 16777216 % 256 ≡ n / 16777216 = omega arith in e ∙ ap (λ k. k ∷ (n / 65536 % 256) ∷ (n / 256 % 256) ∷ (n % 256) ∷ []) top

pub returns-in_err-length-clause-writes : goal.returns-in_err-length-clause-writes
returns-in_err-length-clause-writes c =
    let p = err_from_is_err_and c.from_residual.result c.from_residual.ensures.1 in
    rw (p.1, p.2) (fails_before (records_tests c.args.records.now) _ _ c.in_err-length.ensures, refl)

pub returns-then-length-gt4096-clause-writes : goal.returns-then-length-gt4096-clause-writes
returns-then-length-gt4096-clause-writes c =
    let ok = c.in_ok-length.ensures in
    (fails_after (records_tests c.args.records.now) _ _ (all_pass c.args.records.now ok.0) (inl ((λ h. omega (arith, h, ok.1)), refl)), refl)

pub returns-then-strip-length-clause-writes : goal.returns-then-strip-length-clause-writes
returns-then-strip-length-clause-writes c =
    let ok = c.in_ok-length.ensures in (
      fails_after (records_tests c.args.records.now) _ _ (all_pass c.args.records.now ok.0) (inr (omega (arith, ok.1), inl ((λ h. omega (arith, h, ok.1)), refl))),
      refl,
    )

pub returns : goal.returns
returns c =
    let o = c.args.opening in
    let rs = c.args.records.now in
    let old = c.args.strip.now in
    let ok = c.in_ok-length.ensures in
    let R = records_bytes None rs in
    let B = c.to_be_bytes.result in
    let small : o.first_round < 2 ^ 32 = search rules in
    let bytes : B ≡ four_bytes o.first_round = four o.first_round B small c.to_be_bytes.ensures in
    let lb = ap length bytes in
    let one = c.put_all-at in
    let two = c.put_all-at-2 in
    let three = c.put_records in
    let all : Writes o rs old (Ok three.result) three.new.strip = (
      tests_pass o rs (length old) ok.0 (omega (arith, ok.1)) (omega (arith, ok.1)),
      omega (arith, lb, one.ensures.next, two.ensures.next, three.ensures.next),
      three.ensures.after
          ∙ ap (put two.result R) two.ensures.after
          ∙ put_put one.result two.result B R one.new.strip two.ensures.next (omega (arith, lb, ok.1, one.ensures.next))
          ∙ ap (put one.result (B ++ R)) one.ensures.after
          ∙ put_put 0 one.result (o.cells ∷ o.workers ∷ []) (B ++ R) old one.ensures.next (omega (arith, lb, length-append B R, ok.1))
          ∙ ap (λ (l : List ℕ). put 0 (o.cells ∷ o.workers ∷ (l ++ R)) old) bytes,
    ) in
    record { writes = all; back = written_reads_back o rs old three.new.strip (Ok three.result) all }

-- Each part is written after the one before it, and the parts are the record's bytes.
use Rattle.std.proofs.Common.{◌≡◌, ◌^◌, ◌<◌, ℕ, List, [], ◌∷◌, length, ap, ◌∙◌, arith, rules}
use Rattle.schedule.specs.Format.{when, own_fields, differs}
use Rattle.schedule.specs.Strip.{put}
use Rattle.schedule.proofs.Puts.{row, row_then}
use Rattle.schedule.proofs.Spelling.{two, spelt}
use Rattle.schedule.proofs.write.put_record.Goals as goal

pub returns-clause-after : goal.returns-clause-after
returns-clause-after c =
    let r = c.args.record.now in
    let f = c.of-fields.result in
    let g = c.ne-given.result in
    let own : f ≡ own_fields r.operation = search rules in
    let given : g ≡ differs c.args.before r.worker = search rules in
    let eight : length r.list.cells ≡ 8 = search rules in
    let small : r.steps < 2 ^ 16 = search rules in
    let lead = row c.args.at (c.map.result ∷ r.operation ∷ []) c.args.strip.now c.put_all-at.result c.put_all-at.new.strip c.put_all-at.ensures.next c.put_all-at.ensures.after in
    let worker = row c.put_all-at.result (when g (r.worker ∷ [])) c.put_all-at.new.strip c.put_if-at.result c.put_if-at.new.strip c.put_if-at.ensures.next c.put_if-at.ensures.after in
    let cell = row c.put_if-at.result (when f.cell (r.cell ∷ [])) c.put_if-at.new.strip c.put_if-at-2.result c.put_if-at-2.new.strip c.put_if-at-2.ensures.next c.put_if-at-2.ensures.after in
    let second = row c.put_if-at-2.result (when f.second (r.second ∷ [])) c.put_if-at-2.new.strip c.put_if-at-3.result c.put_if-at-3.new.strip c.put_if-at-3.ensures.next c.put_if-at-3.ensures.after in
    let count = row c.put_if-at-3.result (when f.list (r.list.count ∷ [])) c.put_if-at-3.new.strip c.put_if-at-4.result c.put_if-at-4.new.strip c.put_if-at-4.ensures.next c.put_if-at-4.ensures.after in
    let cells = row c.put_if-at-4.result (when f.list c.as_slice.result.now) c.put_if-at-4.new.strip c.put_if-at-5.result c.put_if-at-5.new.strip c.put_if-at-5.ensures.next c.put_if-at-5.ensures.after in
    let steps = row c.put_if-at-5.result (when f.steps c.to_be_bytes.result) c.put_if-at-5.new.strip c.put_if.result c.put_if.new.strip c.put_if.ensures.next c.put_if.ensures.after in
    let bytes = spelt c.args.before r f g own given c.requires.0 eight c.map.result c.as_slice.result.now c.to_be_bytes.result c.map.ensures c.as_slice.ensures (two r.steps c.to_be_bytes.result small c.to_be_bytes.ensures) in
    let all = row_then lead (row_then worker (row_then cell (row_then second (row_then count (row_then cells steps))))) in
    (all.stands (omega (arith, ap length bytes, c.requires.1))).1 ∙ ap (λ (bs : List ℕ). put c.args.at bs c.args.strip.now) bytes

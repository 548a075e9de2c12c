use Rattle.std.proofs.Common.{◌≡◌, ◌<◌, ◌∙◌, length, ap, sym, arith, rules}
use Rattle.std.proofs.lemmas.Option.{slice_get-get_or}
use Rattle.std.specs.Prelude.{Some}
use Rattle.standing_files.proofs.records.has_one_entry.Goals as goal

pub returns-in-Some : goal.returns-in-Some
returns-in-Some c = λ yes.
    let left = c.args.left.now in
    let entries = c.args.entries.now in
    let i = c.args.i in
    let from = c.in-Some.from in
    let in_left : i < length left = omega (arith, c.if-i-left.false) in
    let in_entries : i < length entries = omega (arith, c.if-i-entries.false) in
    let left_is : c.index-left-i.result ≡ Some from = search rules in
    record {
      from = from;
      left_is = slice_get-get_or left i c.index-left-i.result in_left ∙ ap Some (sym c.index-left-i.is ∙ left_is);
      is = slice_get-get_or entries i c.index-entries-i.result in_entries ∙ ap Some (sym c.index-entries-i.is ∙ sym c.in-Some.ensures);
    }

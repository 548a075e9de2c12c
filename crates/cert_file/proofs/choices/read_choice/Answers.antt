use Rattle.std.proofs.Common.{◌≡◌, ◌+◌, ◌≤◌, ◌++◌, ◌∷◌, [], ◌∙◌, sym, ap, arith}
use Rattle.std.specs.Prelude.{OnOk, Result, Ok, Err}
use Rattle.std.proofs.lemmas.List.{append-nil, length-append}
use Rattle.std.proofs.lemmas.List.Concat.{flat_map-append}
use Rattle.std.proofs.lemmas.Result.{err_from_is_err_and}
use Rattle.shelf_traits.proofs.FileLaws.{only_reads_then}
use Rattle.file_bytes.proofs.ReadingLaws.{took_along, stops_later, stops_list}
use Rattle.source_map.proofs.FieldLaws.{field_ruled}
use Rattle.cert_file.specs.CutForms.{choice_bytes}
use Rattle.cert_file.specs.CutReading.{bits_of, byte_bits, choice_rule}
use Rattle.cert_file.proofs.Bits.{length-bits_of}
use Rattle.cert_file.proofs.Readings.{field_lacks}
use Rattle.cert_file.proofs.choices.read_choice.Goals as goal

-- what holds in any case holds of a value
on_ok : {T E : Type 0} (r : Result T E) (P : Type 0) → P → OnOk r P
on_ok (Ok x) P p = p
on_ok (Err e) P p = tt

pub loop-j-preserved : goal.loop-j-preserved
loop-j-preserved g c =
    let state = g.S.Shelf.state in
    let so = c.loop-j.invariant.took in
    let read = c.in_ok-byte.ensures {u = tt} in
    let b = c.in_ok-byte.byte in
    record {
      took = record {
        piece = so.piece ++ b ∷ [];
        long = omega (arith, so.long, length-append so.piece (b ∷ []));
        took = took_along c.args.name.now c.args.file.now.at so.piece (b ∷ []) (state c.loop-j.shelf) (state c.u8.new.shelf) c.loop-j.file c.u8.new.self read.reads so.took read.took;
        bits_are = (c.in_ok-push_bits.ensures {u = tt}) ∙ ap (λ bits. bits ++ byte_bits b) so.bits_are
            ∙ ap (λ last. bits_of so.piece ++ last) (sym (append-nil (byte_bits b))) ∙ sym (flat_map-append byte_bits so.piece (b ∷ []));
      };
      reads = only_reads_then (state c.args.shelf.now) (state c.loop-j.shelf) (state c.u8.new.shelf) c.loop-j.invariant.reads read.reads;
    }

pub returns-in_err-byte-clause-reads : goal.returns-in_err-byte-clause-reads
returns-in_err-byte-clause-reads g c =
    let state = g.S.Shelf.state in
    only_reads_then (state c.args.shelf.now) (state c.loop-j.shelf) (state c.u8.new.shelf) c.loop-j.invariant.reads c.in_err-byte.ensures.reads

pub returns-in_err-push_bits-clause-reads : goal.returns-in_err-push_bits-clause-reads
returns-in_err-push_bits-clause-reads g c =
    let state = g.S.Shelf.state in
    only_reads_then (state c.args.shelf.now) (state c.loop-j.shelf) (state c.u8.new.shelf) c.loop-j.invariant.reads (c.in_ok-byte.ensures {u = tt}).reads

pub returns-in_err-byte-clause-answer : goal.returns-in_err-byte-clause-answer
returns-in_err-byte-clause-answer g c =
    let state = g.S.Shelf.state in
    let name = c.args.name.now in
    let e = c.in_err-byte.field-0.0 in
    let end = c.args.file.now.at + choice_bytes c.args.cells in
    let a = state c.args.shelf.now in
    let b = state c.loop-j.shelf in
    let d = state c.u8.new.shelf in
    let p = err_from_is_err_and c.from_residual.result c.from_residual.ensures.1 in
    let before = c.loop-j.invariant.took in
    let count : c.div_ceil-count.result ≡ choice_bytes c.args.cells = omega (arith, c.div_ceil-count.ensures) in
    let within : c.loop-j.file.at + 1 ≤ end = omega (arith, before.took.at_is, before.long, c.loop-j-test.true, count) in
    rw (p.1, p.2)
    (field_lacks name (choice_bytes c.args.cells) (choice_rule c.args.cells) c.args.file.now.at a d c.u8.new.self e
    (stops_list name end a d e (stops_later name (c.loop-j.file.at + 1) end a b d e within c.loop-j.invariant.reads c.in_err-byte.ensures.stops)))

pub lawful_choice-requires : goal.lawful_choice-requires
lawful_choice-requires g c =
    let so = c.loop-j.invariant.took in
    let count : c.div_ceil-count.result ≡ choice_bytes c.args.cells = omega (arith, c.div_ceil-count.ensures) in
    omega (arith, length-bits_of so.piece c.loop-j.bits.items so.bits_are, so.long, count, c.loop-j-test.false, c.loop-j.auto.j-end)

pub returns-clause-answer : goal.returns-clause-answer
returns-clause-answer g c =
    let state = g.S.Shelf.state in
    let so = c.loop-j.invariant.took in
    let count : c.div_ceil-count.result ≡ choice_bytes c.args.cells = omega (arith, c.div_ceil-count.ensures) in
    let all : c.loop-j.j ≡ c.div_ceil-count.result = omega (arith, c.loop-j-test.false, c.loop-j.auto.j-end) in
    field_ruled (Unit {0}) c.args.name.now (choice_bytes c.args.cells) (choice_rule c.args.cells) c.args.file.now.at so.piece (state c.args.shelf.now) (state c.loop-j.shelf) c.loop-j.file c.lawful_choice.result
    (so.long ∙ all ∙ count) (c.lawful_choice.ensures.choice so.piece so.bits_are ∙ ap (λ at. choice_rule c.args.cells at so.piece) c.place-at.ensures) c.lawful_choice.ensures.refusal so.took

pub returns-clause-place : goal.returns-clause-place
returns-clause-place g c =
    let so = c.loop-j.invariant.took in
    let count : c.div_ceil-count.result ≡ choice_bytes c.args.cells = omega (arith, c.div_ceil-count.ensures) in
    let all : c.loop-j.j ≡ c.div_ceil-count.result = omega (arith, c.loop-j-test.false, c.loop-j.auto.j-end) in
    let place = so.took.at_is ∙ ap (λ n. c.args.file.now.at + n) (so.long ∙ all ∙ count) in
    on_ok _ _ place

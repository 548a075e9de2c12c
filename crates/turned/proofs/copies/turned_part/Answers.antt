use Rattle.std.proofs.Common.{◌*◌, ◌∙◌, ap, sym}
use Rattle.std.specs.Prelude.{unwrap_or}
use Rattle.cells.specs.Places.{cell_count}
use Rattle.cells.specs.Cells.{volume_of}
use Rattle.turned.specs.Turns.{turn_size}
use Rattle.turned.proofs.Copying.{bytes_it, part_turn_is, whole_it}
use Rattle.turned.proofs.copies.turned_part.Goals as goal

pub turned_bytes-requires : goal.turned_bytes-requires
turned_bytes-requires c =
    part_turn_is c.args.samples.now c.args.sizes.now c.args.number c.args.turn c.turned_size.result c.samples-k.ensures.volume c.requires.sizes c.requires.from c.requires.to c.requires.turn
    (c.turned_size.ensures ∙ ap (turn_size c.args.turn) (ap (λ o. unwrap_or o (record { w = 0; h = 0; f = 0 })) c.at.ensures.size))

pub from_bytes-requires-clause-small : goal.from_bytes-requires-clause-small
from_bytes-requires-clause-small c =
    (part_turn_is c.args.samples.now c.args.sizes.now c.args.number c.args.turn c.turned_size.result c.samples-k.ensures.volume c.requires.sizes c.requires.from c.requires.to c.requires.turn
    (c.turned_size.ensures ∙ ap (turn_size c.args.turn) (ap (λ o. unwrap_or o (record { w = 0; h = 0; f = 0 })) c.at.ensures.size))).small

pub from_bytes-requires-clause-whole : goal.from_bytes-requires-clause-whole
from_bytes-requires-clause-whole c =
    let is = part_turn_is c.args.samples.now c.args.sizes.now c.args.number c.args.turn c.turned_size.result c.samples-k.ensures.volume c.requires.sizes c.requires.from c.requires.to c.requires.turn
    (c.turned_size.ensures ∙ ap (turn_size c.args.turn) (ap (λ o. unwrap_or o (record { w = 0; h = 0; f = 0 })) c.at.ensures.size)) in
    whole_it c.args.samples.now c.args.sizes.now (record { number = c.args.number; turn = c.args.turn; size = c.turned_size.result }) is c.samples-k.ensures.volume c.in_ok-bytes.bytes.items (c.in_ok-bytes.ensures {u = tt})
    ∙ ap (λ n. n * cell_count c.turned_size.result) (sym c.samples-k.ensures.samples)

pub returns-clause-turned : goal.returns-clause-turned
returns-clause-turned c =
    let is = part_turn_is c.args.samples.now c.args.sizes.now c.args.number c.args.turn c.turned_size.result c.samples-k.ensures.volume c.requires.sizes c.requires.from c.requires.to c.requires.turn
    (c.turned_size.ensures ∙ ap (turn_size c.args.turn) (ap (λ o. unwrap_or o (record { w = 0; h = 0; f = 0 })) c.at.ensures.size)) in
    c.from_bytes.ensures.volume ∙ ap (λ k. volume_of c.turned_size.result k c.in_ok-bytes.bytes.items) c.samples-k.ensures.samples
    ∙ bytes_it c.args.samples.now c.args.sizes.now (record { number = c.args.number; turn = c.args.turn; size = c.turned_size.result }) is c.samples-k.ensures.volume c.in_ok-bytes.bytes.items (c.in_ok-bytes.ensures {u = tt})

pub returns-clause-samples : goal.returns-clause-samples
returns-clause-samples c = ap (λ v. v.k) c.from_bytes.ensures.volume ∙ c.samples-k.ensures.samples

use Rattle.std.proofs.Common.{◌≡◌, ℕ, ◌<◌, ◌≤◌, List, length, get_or, refl, ap, sym, ◌∙◌, arith, rules, w32, to_z, of_z}
use Rattle.std.specs.Prelude.{pos, Some, None, option_map}
use Rattle.std.proofs.lemmas.Bool.{ltb-true}
use Rattle.std.proofs.lemmas.Int.{ints, to_z-of_z}
use Rattle.std.proofs.lemmas.Option.{slice_get_read, slice_get_past}
use lib.IntN.{nat_abs}
use mir.Val.{SFits}
use Rattle.cells.specs.declared.place.At.{At}
use Rattle.source_map.specs.MapFiles.{frame_entry, frame_source}
use Rattle.standing_files.proofs.picture.frame_source.Goals as goal

-- the source of a cell of a frame that has an entry, and of one past the entries
entry_at : (frames : List ℕ) (p : At) (i e : ℕ) → p.f ≡ pos i → i < length frames → e ≡ get_or frames i e → Some (record { x = p.x; y = p.y; f = pos e }) ≡ frame_source frames p
entry_at frames p i e at lt is =
    let of_entry = option_map (λ e. let from : At = record { x = p.x; y = p.y; f = pos e } in from) in
    sym (ap (λ f. of_entry (frame_entry frames f)) at ∙ ap of_entry (slice_get_read frames (length frames) i e refl lt is))

none_at : (frames : List ℕ) (p : At) (i : ℕ) → p.f ≡ pos i → length frames ≤ i → None ≡ frame_source frames p
none_at frames p i at le =
    let of_entry = option_map (λ e. let from : At = record { x = p.x; y = p.y; f = pos e } in from) in
    sym (ap (λ f. of_entry (frame_entry frames f)) at ∙ ap of_entry (slice_get_past frames i le))

pub returns : goal.returns
returns c =
    let frames = c.args.frames.now in
    let p = c.args.p in
    let i = nat_abs (to_z w32 (of_z w32 p.f)) in
    let x : SFits w32 p.x = search rules in
    let y : SFits w32 p.y = search rules in
    let f : SFits w32 c.from.result = search rules in
    let at : p.f ≡ pos i = omega (arith, ints, c.if-p-lt0.false) in
    let lookup = c.in_ok-frame.ensures.lookup in
    (λ k. Some (record { x = to_z-of_z w32 p.x x k; y = to_z-of_z w32 p.y y k; f = (to_z-of_z w32 c.from.result f ∙ c.from.ensures) k }))
    ∙ entry_at frames p i c.in_ok-frame.field-0.now at (ltb-true i (length frames) (sym lookup.0)) lookup.1

pub returns-in_err-frame : goal.returns-in_err-frame
returns-in_err-frame c =
    let p = c.args.p in
    let i = nat_abs (to_z w32 (of_z w32 p.f)) in
    let at : p.f ≡ pos i = omega (arith, ints, c.if-p-lt0.false) in
    c.from_residual.ensures ∙ none_at c.args.frames.now p i at c.in_err-frame.ensures.lookup.3

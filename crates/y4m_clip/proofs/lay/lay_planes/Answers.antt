use Rattle.std.proofs.lemmas.Grind.{common_steps}
use Rattle.std.proofs.Common.{◌≡◌, ◌*◌, sym, ap, ◌∙◌, arith}
use Rattle.y4m_clip.specs.declared.form.SpaceKind.{SpaceKind}
use Rattle.y4m_clip.specs.Spaces.{cell_width, cell_height, samples_of}
use Rattle.y4m_clip.specs.Writing.{planes_of}
use Rattle.y4m_clip.proofs.Laying.{frame_samples, cell_samples, mono_laid, planes_laid}
use Rattle.y4m_clip.proofs.lay.lay_planes.Goals as goal

pub lay_plane-blue-requires : goal.lay_plane-blue-requires
lay_plane-blue-requires c =
    let size = c.args.volume.now.size in
    let wide = c.cell_width-width.ensures in
    let high = c.cell_height-height.ensures in
    let cell : c.cell_width-width.result * c.cell_height-height.result ≡ cell_width c.args.space * cell_height c.args.space = λ i. wide i * high i in
    let luma : c.cell_width-width.result * size.w * c.cell_height-height.result * size.h ≡ cell_width c.args.space * size.w * cell_height c.args.space * size.h = λ i. wide i * size.w * high i * size.h in
    record {
      one = c.requires.one;
      frame = c.requires.frame;
      inside = omega (arith, cell, cell_samples c.args.space c.in_default.not-Mono, c.requires.samples);
      few = omega arith;
      room = omega (arith, luma, c.lay_plane-luma.ensures.place, c.lay_plane-luma.ensures.lays.room, c.requires.room, frame_samples c.args.space size.w size.h c.in_default.not-Mono);
    }

pub lay_plane-requires : goal.lay_plane-requires
lay_plane-requires c =
    let size = c.args.volume.now.size in
    let wide = c.cell_width-width.ensures in
    let high = c.cell_height-height.ensures in
    let cell : c.cell_width-width.result * c.cell_height-height.result ≡ cell_width c.args.space * cell_height c.args.space = λ i. wide i * high i in
    let luma : c.cell_width-width.result * size.w * c.cell_height-height.result * size.h ≡ cell_width c.args.space * size.w * cell_height c.args.space * size.h = λ i. wide i * size.w * high i * size.h in
    record {
      one = c.requires.one;
      frame = c.requires.frame;
      inside = omega (arith, cell, cell_samples c.args.space c.in_default.not-Mono, c.requires.samples);
      few = omega arith;
      room = omega (
        arith,
        luma,
        c.lay_plane-luma.ensures.place,
        c.lay_plane-blue.ensures.place,
        c.lay_plane-luma.ensures.lays.room,
        c.lay_plane-blue.ensures.lays.room,
        c.requires.room,
        frame_samples c.args.space size.w size.h c.in_default.not-Mono,
      );
    }

pub returns-in-Mono : goal.returns-in-Mono
returns-in-Mono c =
    let v = c.args.volume.now in
    let mono = c.in-Mono.is in
    mono_laid v c.args.f c.cell_width-width.result c.cell_height-height.result c.args.planes.now c.lay_plane-luma.new.planes c.lay_plane-luma.result
    (c.cell_width-width.ensures ∙ ap cell_width mono) (c.cell_height-height.ensures ∙ ap cell_height mono)
    (c.requires.room ∙ ap (λ (kind : SpaceKind). samples_of kind * (v.size.w * v.size.h)) mono) c.lay_plane-luma.ensures.lays c.lay_plane-luma.ensures.place
    ∙ ap (λ (kind : SpaceKind). planes_of kind v c.args.f) (sym mono)

pub returns-in_default : goal.returns-in_default
returns-in_default c =
    planes_laid c.args.space c.args.volume.now c.args.f c.cell_width-width.result c.cell_height-height.result c.args.planes.now c.lay_plane-luma.new.planes c.lay_plane-blue.new.planes c.lay_plane.new.planes
    c.lay_plane-luma.result c.lay_plane-blue.result c.lay_plane.result c.cell_width-width.ensures c.cell_height-height.ensures c.in_default.not-Mono c.requires.room
    c.lay_plane-luma.ensures.lays c.lay_plane-luma.ensures.place c.lay_plane-blue.ensures.lays c.lay_plane-blue.ensures.place c.lay_plane.ensures.lays c.lay_plane.ensures.place

pub lay_plane-luma-requires-clause-room : goal.lay_plane-luma-requires-clause-room
lay_plane-luma-requires-clause-room c = grind (arith, common_steps)

pub overflow_mul-width-in_default : goal.overflow_mul-width-in_default
overflow_mul-width-in_default c = grind (arith, common_steps)

pub overflow_add-width : goal.overflow_add-width
overflow_add-width c = grind (arith, common_steps)

pub overflow_mul-width : goal.overflow_mul-width
overflow_mul-width c = grind (arith, common_steps)

pub lay_plane-luma-requires-clause-inside : goal.lay_plane-luma-requires-clause-inside
lay_plane-luma-requires-clause-inside c = grind (arith, common_steps)

pub lay_plane-luma-requires-clause-few : goal.lay_plane-luma-requires-clause-few
lay_plane-luma-requires-clause-few c = grind (arith, common_steps)

-- A picture or clip that is written in a form is read again.
use Rattle.std.proofs.Common.{◌≤◌, arith}
use Rattle.cells.specs.Cells.{Cells}
use Rattle.cells.specs.Places.{cell_count}
use Rattle.netpbm_p6.proofs.ReadAgain.{written_is_read}
use Rattle.y4m_clip.proofs.ClipAgain as clip
use Rattle.sample_files.specs.declared.form.Form.{Form}
use Rattle.sample_files.specs.declared.form.Form.TheVariants.{Picture, Clip}
use Rattle.sample_files.specs.Samples.{CanStandIn, StandsWithin, form_text}

pub picture_again : (form : Form) (picture : Cells) → CanStandIn form picture → cell_count picture.size ≤ 8388608 → StandsWithin 33554432 (form_text form picture) form picture
picture_again (Picture maxval) picture can cells = written_is_read maxval picture can cells
picture_again (Clip form) picture can cells = clip.written_is_read 33554432 form picture can (omega (arith, cells))

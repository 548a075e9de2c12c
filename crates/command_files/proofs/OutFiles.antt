-- What writes an out file of a form and a size writes the form of a volume of that size.
use Rattle.std.proofs.Common.{◌≡◌, List, ℕ, refl}
use Rattle.cells.specs.Cells.{Cells}
use Rattle.sample_files.specs.declared.form.Form.{Form}
use Rattle.sample_files.specs.declared.form.Form.TheVariants.{Picture, Clip}
use Rattle.sample_files.specs.Samples.{CanStandIn, form_text}
use Rattle.command_files.specs.Outs.{CanWrite, out_text, out_writer}

pub can_write : (form : Form) (volume : Cells) → CanStandIn form volume → CanWrite (out_writer form volume.size) volume
can_write (Picture maxval) volume can = can
can_write (Clip form) volume can = record { one = can.one; width = refl; height = refl; samples = can.samples }

pub text_of_form : (form : Form) (volume : Cells) → out_text (out_writer form volume.size) volume ≡ form_text form volume
text_of_form (Picture maxval) volume = refl
text_of_form (Clip form) volume = refl

use Rattle.std.proofs.Common.{refl}
use mathlib.Core.Bool.{false≢true}
use Rattle.standing_files.proofs.together.takes_form.Goals as goal

pub returns-in-Blocks-Clip : goal.returns-in-Blocks-Clip
returns-in-Blocks-Clip c = rw (c.in-Blocks-Clip.is-0, c.in-Blocks-Clip.is-1) (λ yes. absurd (false≢true yes), λ none. absurd none)

pub returns-in-Blocks-Picture : goal.returns-in-Blocks-Picture
returns-in-Blocks-Picture c = rw (c.in-Blocks-Picture.is-0, c.in-Blocks-Picture.is-1) (λ yes. tt, λ some. refl)

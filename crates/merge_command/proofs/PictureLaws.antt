-- Files have one answer at most: they stand for one list of pictures of one size, or they are refused for one fault. What they stand for is sound.
use Rattle.std.proofs.Common.{◌≡◌, ℕ, List, ap, refl}
use Rattle.netpbm_p6.specs.declared.picture.Picture.{Picture as PictureRead}
use Rattle.netpbm_p6.specs.Pictures.{IsRead}
use Rattle.netpbm_p6.proofs.OneReading as reading
use Rattle.synth_report.specs.declared.fault.Fault.{Fault}
use Rattle.sample_files.specs.declared.form.Form.{Form}
use Rattle.sample_files.specs.declared.form.Form.TheVariants.{Clip, Picture}
use Rattle.sample_files.specs.declared.several.Samples.{Samples}
use Rattle.sample_files.specs.Several.{AreSoundSeveral}
use Rattle.sample_files.proofs.OneAnswer as several
use Rattle.sample_files.proofs.Sound.{stand_sound}
use Rattle.merge_command.specs.declared.pictures.Pictures.{Pictures}
use Rattle.merge_command.specs.Pictures.{AreSoundPictures, RefusesPictures, StandForPictures, as_samples, of_pictures}

pub same_picture : (bytes : List ℕ) (one other : PictureRead) → IsRead bytes one → IsRead bytes other → one ≡ other
same_picture bytes one other a b = reading.one_picture bytes one other a.stands b.stands

-- samples in the form of a picture are pictures
maxval_in : Form → ℕ
maxval_in (Picture maxval) = maxval
maxval_in (Clip form) = 0

pictures_in : Samples → Pictures
pictures_in samples = record { maxval = maxval_in samples.form; volume = samples.volume }

same_pictures : (one other : Pictures) → as_samples one ≡ as_samples other → one ≡ other
unfolding pictures_in maxval_in
same_pictures one other same = ap pictures_in same

pub one_value : (first : List ℕ) (more : List (List ℕ)) (one other : Pictures) → StandForPictures first more one → StandForPictures first more other → one ≡ other
one_value first more one other a b = same_pictures one other (several.one_value of_pictures first more (as_samples one) (as_samples other) a b)

pub unrefused : (first : List ℕ) (more : List (List ℕ)) (pictures : Pictures) (n : ℕ) (fault : Fault) → StandForPictures first more pictures → RefusesPictures n first more fault → ⊥
unrefused first more pictures = several.not_both of_pictures first more (as_samples pictures)

pub refused_once : (first : List ℕ) (more : List (List ℕ)) (m n : ℕ) (one other : Fault) → RefusesPictures m first more one → RefusesPictures n first more other → one ≡ other
refused_once = several.refused_once of_pictures

pub sound_pictures : (pictures : Pictures) → AreSoundSeveral of_pictures (as_samples pictures) → AreSoundPictures pictures
sound_pictures pictures s = record { each = s.sound.form; one_size = s.one_size refl; fits = s.sound.fits }

pub pictures_are_sound : (first : List ℕ) (more : List (List ℕ)) (pictures : Pictures) → StandForPictures first more pictures → AreSoundPictures pictures
pictures_are_sound first more pictures stand = sound_pictures pictures (stand_sound of_pictures first more (as_samples pictures) stand)

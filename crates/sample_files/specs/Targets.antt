-- The target of a run, a picture that is read after its sample and has the sample's maxval. To be
-- trusted: contracts cite these words. (Own.)
use Rattle.std.specs.Prelude.{◌≡◌, ◌⊎◌, ℕ, List, ◌∷◌, Result, Ok, Err}
use Rattle.shelf_traits.specs.Files.{ShelfState, InFile}
use Rattle.netpbm_p6.specs.declared.picture.Picture.{Picture}
use Rattle.netpbm_p6.specs.Pictures.{IsRead, Refuses}
use Rattle.synth_report.specs.declared.fault.FileOf.TheVariants as part
use Rattle.synth_report.specs.declared.fault.Fault.{Fault}
use Rattle.synth_report.specs.declared.fault.Fault.TheVariants.{Unlike}
use Rattle.command.specs.Commands.{NamedFile, named}
use Rattle.command.specs.Faults.{IsNotRead}
use Rattle.command.specs.Stages.{Stages, read_file}
use Rattle.command.specs.Stages.Stages.{ask}

-- a target doesn't have the maxval of the sample
pub record TargetUnlike (maxval : ℕ) (target : Picture) (fault : Fault) : Type 0 where
  pub unlike : target.maxval ≡ maxval → ⊥
  pub is : fault ≡ Unlike part.Target

-- the target is read, its maxval is that of the sample, and the stages go on with it
abbrev pub read_target : {more : List NamedFile} → ℕ → (name : List ℕ) → (Picture → Stages more)
    → Stages (named part.Target name ∷ more)
read_target maxval name next =
    read_file part.Target name IsRead Refuses
    (λ target. ask (target.maxval ≡ maxval) (TargetUnlike maxval target) (next target))

-- what a reader of it answers
pub record IsTargetRead (maxval : ℕ) (name : List ℕ) (was now : ShelfState) (target : Picture)
    : Type 0 where
  pub read : InFile name was now (λ bytes. IsRead bytes target)
  pub alike : target.maxval ≡ maxval

pub record IsTargetUnlike (maxval : ℕ) (name : List ℕ) (was now : ShelfState) (fault : Fault)
    : Type 0 where
  pub target : Picture
  pub read : InFile name was now (λ bytes. IsRead bytes target)
  pub unlike : TargetUnlike maxval target fault

abbrev pub TargetReadsAs : ℕ → List ℕ → ShelfState → ShelfState → Result Picture Fault → Type 0
TargetReadsAs maxval name was now (Ok target) = IsTargetRead maxval name was now target
TargetReadsAs maxval name was now (Err fault) =
    IsNotRead Refuses part.Target name was now fault ⊎ IsTargetUnlike maxval name was now fault

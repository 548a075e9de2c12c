-- The stages of `loop`: each has one answer, and what is planned goes by them.
use Rattle.std.proofs.Common.{◌≡◌, ◌∙◌, ℕ, List, sym, inl, inr, refl, subst}
use Rattle.std.specs.Prelude.{Err}
use Rattle.limits.specs.declared.bounds.TheConstants.{MOST_SAMPLE_CELLS}
use Rattle.shelf_traits.specs.Files.{Files, InFile, OnlyReadsFile, ShelfState}
use Rattle.shelf_traits.specs.declared.fault.ReadError.{ReadError}
use Rattle.shelf_traits.specs.declared.fault.ReadError.TheVariants.{ReadFault, Bad, Limit as ReadLimit, NoMemory as ReadMemory}
use Rattle.y4m_clip.specs.declared.form.Clip.{Clip}
use Rattle.y4m_clip.specs.Refusals.{IsReadClip, ReadsClipAs, RefusesClip}
use Rattle.y4m_clip.proofs.OneClip.{one_clip}
use Rattle.y4m_clip.proofs.OneRefusal as y4m
use Rattle.loop_walk.specs.declared.record.LoopError.{LoopError}
use Rattle.loop_walk.specs.declared.record.LoopError.TheVariants as error
use Rattle.loop_walk.specs.declared.record.LoopRecord.{LoopRecord}
use Rattle.loop_walk.specs.Walks.{HasNoWalk}
use Rattle.synth_report.specs.declared.fault.Fault.{Fault}
use Rattle.synth_report.specs.declared.fault.FileOf.TheVariants as part
use Rattle.command.specs.Faults.{FailsToRead, fault_of_read}
use Rattle.command.specs.Outcomes.{IsPlanned, NotMade}
use Rattle.command.proofs.Staging.{AreOne, ReadsOne, bound_is_one, file_is_one}
use Rattle.command.proofs.Planning.{StandsBefore, begin, file_not_read, limit_passed, not_passed, pass_on, plan_made, file_read}
use Rattle.job_words.specs.declared.loop_words.LoopJob.{LoopJob}
use Rattle.loop_command.specs.Loops.{IsLoopMade, IsLoopSummary, IsLoopWithin, MayRefuseLoop, PassesBounds, fault_of_looping, loop_command, loop_files, loop_of, loop_over, loop_stages, loop_summary, steps_over}

clip_is_one : (most : _) → ReadsOne (IsReadClip most) (RefusesClip most)
clip_is_one most = record { one_value = λ bytes first second a b. one_clip bytes first second a.stands b.stands; not_both = y4m.not_both most; one_refusal = y4m.one_refusal most }

pub are_one : (job : LoopJob) (files : Files) → AreOne (loop_stages job) files
are_one job files = (
  file_is_one (clip_is_one MOST_SAMPLE_CELLS) part.Sample job.names.sample files,
  λ clip read. (
    bound_is_one _ _ _,
    λ frames. (
      bound_is_one _ _ _,
      λ cells. (
        record { not_both = λ fault has lacks. lacks.0 has.0 has.1 has.2; one_refusal = λ first second a b. a.1 ∙ sym b.1 },
        λ has first second a b. refl,
      ),
    ),
  ),
)

clip_fails : (most : _) (name : _) (a b : ShelfState) (answer : ReadError) → ReadsClipAs most name a b (Err answer) → FailsToRead (RefusesClip most) name a b answer
clip_fails most name a b ReadFault left = left
clip_fails most name a b ReadMemory left = tt
clip_fails most name a b (Bad why) left = left
clip_fails most name a b (ReadLimit what number bound) left = left

-- What is planned: the code has the sample file under the name that it sees.

module _ (job : LoopJob) (a b : ShelfState) {name : List ℕ} (same : name ≡ job.names.sample) (reads : OnlyReadsFile name a b) where
  begun : StandsBefore (loop_command job) a a 0 (loop_stages job)
  begun = begin (loop_stages job) (loop_command job).writes (MayRefuseLoop job) (IsLoopSummary job) (are_one job) a

  to_sample : OnlyReadsFile job.names.sample a b
  to_sample = subst (λ n. OnlyReadsFile n a b) same reads

  pub clip_not_read : (answer : ReadError) → ReadsClipAs MOST_SAMPLE_CELLS name a b (Err answer) → NotMade (loop_command job) a b (fault_of_read part.Sample answer)
  clip_not_read answer left =
      file_not_read (RefusesClip MOST_SAMPLE_CELLS) begun to_sample (λ why. tt) (λ what number bound. tt) answer (clip_fails MOST_SAMPLE_CELLS job.names.sample a b answer (subst (λ n. ReadsClipAs MOST_SAMPLE_CELLS n a b (Err answer)) same left))

  module _ (clip : Clip) (read : InFile name a b (λ bytes. IsReadClip MOST_SAMPLE_CELLS bytes clip)) where
    over : StandsBefore (loop_command job) a b 1 (loop_over job clip)
    over = file_read begun to_sample clip (subst (λ n. InFile n a b (λ bytes. IsReadClip MOST_SAMPLE_CELLS bytes clip)) same read)

    pub bounds_passed : (fault : Fault) → PassesBounds job clip.volume fault → NotMade (loop_command job) a b fault
    bounds_passed fault (inl frames) = limit_passed over fault _ _ _ frames.1 frames tt
    bounds_passed fault (inr cells) = limit_passed (pass_on over cells.0) fault _ _ _ cells.1.1 cells.1 tt

    pub not_looped : IsLoopWithin job clip.volume → (why : LoopError) → (why ≡ error.NoLoop → HasNoWalk (steps_over job clip.volume) job.length) → NotMade (loop_command job) a b (fault_of_looping job why)
    not_looped bounds error.NoLoop none = not_passed (pass_on (pass_on over bounds.frames) bounds.cells) _ (none refl, refl) refl
    not_looped bounds error.NoMemory none = tt

    pub loop_made : (found : LoopRecord) → IsLoopMade job (loop_of clip found) → IsPlanned (loop_command job) (loop_files job (loop_of clip found)) (loop_summary job (loop_of clip found)) a b
    loop_made found made =
        let least = made.found.least in
        plan_made (pass_on (pass_on (pass_on over made.bounds.frames) made.bounds.cells) (found.walk, least.frames, least.closed)) found made refl (_, _, refl)

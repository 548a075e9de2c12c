use Rattle.std.proofs.Common.{arith}
use Rattle.command.proofs.Promising.{complete_promise, done_promise, halves_promise, keeps_promise, memory_promise, named_promise, others_promise, read_promise, refused_promise, silence_promise, words_promise, write_promise}
use Rattle.command.proofs.Views.{form_number, limit_number, loop_number}
use Rattle.weave_engine.specs.Engine.{command_of}
use Rattle.weave_engine.proofs.Ending.{check_headline, grow_headline, grow_once, grow_reported, known_status, loop_headline, loop_once, merge_headline, merge_once, merge_reported, one_answer, quilt_headline, quilt_once, quilt_reported, ran_by, tile_headline, tile_once, transfer_headline, transfer_once, transfer_reported, trial_headline, upgrade_headline}
use Rattle.weave_engine.proofs.engine.run.Goals as goal

pub returns-clause-ran : goal.returns-clause-ran
returns-clause-ran g c =
    ran_by command_of _ _ _ _ _ _ _ _ _ c.answer-answer.result _ c.answer-answer.ensures (grind arith) (grind arith) c.finish.ensures.said c.finish.ensures.status

pub returns-clause-status_done : goal.returns-clause-status_done
returns-clause-status_done g c = done_promise command_of one_answer _ _ _ _ _ _ _ _ (returns-clause-ran g c)

pub returns-clause-silent : goal.returns-clause-silent
returns-clause-silent g c = silence_promise command_of one_answer _ _ _ _ _ _ _ _ (returns-clause-ran g c)

pub returns-clause-status_words : goal.returns-clause-status_words
returns-clause-status_words g c = words_promise command_of one_answer _ _ _ _ _ _ _ _ (returns-clause-ran g c)

pub returns-clause-status_form : goal.returns-clause-status_form
returns-clause-status_form g c = refused_promise command_of one_answer _ _ _ _ _ _ _ _ 3 form_number (returns-clause-ran g c)

pub returns-clause-status_limit : goal.returns-clause-status_limit
returns-clause-status_limit g c = refused_promise command_of one_answer _ _ _ _ _ _ _ _ 4 limit_number (returns-clause-ran g c)

pub returns-clause-status_read : goal.returns-clause-status_read
returns-clause-status_read g c = read_promise command_of one_answer _ _ _ _ _ _ _ _ (returns-clause-ran g c)

pub returns-clause-status_write : goal.returns-clause-status_write
returns-clause-status_write g c = write_promise command_of one_answer _ _ _ _ _ _ _ _ (returns-clause-ran g c)

pub returns-clause-status_memory : goal.returns-clause-status_memory
returns-clause-status_memory g c = memory_promise command_of one_answer _ _ _ _ _ _ _ _ (returns-clause-ran g c)

pub returns-clause-status_loop : goal.returns-clause-status_loop
returns-clause-status_loop g c = refused_promise command_of one_answer _ _ _ _ _ _ _ _ 8 loop_number (returns-clause-ran g c)

pub returns-clause-complete : goal.returns-clause-complete
returns-clause-complete g c = complete_promise command_of one_answer _ _ _ _ _ _ _ _ (returns-clause-ran g c)

pub returns-clause-refused_files : goal.returns-clause-refused_files
returns-clause-refused_files g c = keeps_promise command_of one_answer _ _ _ _ _ _ _ _ (returns-clause-ran g c)

pub returns-clause-other_files : goal.returns-clause-other_files
returns-clause-other_files g c = others_promise command_of one_answer _ _ _ _ _ _ _ _ (returns-clause-ran g c)

pub returns-clause-named_files : goal.returns-clause-named_files
returns-clause-named_files g c = named_promise command_of one_answer _ _ _ _ _ _ _ _ (returns-clause-ran g c)

pub returns-clause-reads_first : goal.returns-clause-reads_first
returns-clause-reads_first g c = halves_promise command_of one_answer _ _ _ _ _ _ _ _ (returns-clause-ran g c)

pub returns-clause-no_other_status : goal.returns-clause-no_other_status
returns-clause-no_other_status g c = known_status _ _ _ _ _ _ _ _ (returns-clause-ran g c)

pub returns-clause-headline : goal.returns-clause-headline
returns-clause-headline g c = grow_headline _ _ _ _ _ _ _ _ (returns-clause-ran g c)

pub returns-clause-one_output : goal.returns-clause-one_output
returns-clause-one_output g c = grow_once _ _ _ _ _ _ _ _ (returns-clause-ran g c)

pub returns-clause-grow_report : goal.returns-clause-grow_report
returns-clause-grow_report g c = grow_reported _ _ _ _ _ _ _ _ (returns-clause-ran g c)

pub returns-clause-checked : goal.returns-clause-checked
returns-clause-checked g c = check_headline _ _ _ _ _ _ _ _ (returns-clause-ran g c)

pub returns-clause-tried : goal.returns-clause-tried
returns-clause-tried g c = trial_headline _ _ _ _ _ _ _ _ (returns-clause-ran g c)

pub returns-clause-quilted : goal.returns-clause-quilted
returns-clause-quilted g c = quilt_headline _ _ _ _ _ _ _ _ (returns-clause-ran g c)

pub returns-clause-one_quilt : goal.returns-clause-one_quilt
returns-clause-one_quilt g c = quilt_once _ _ _ _ _ _ _ _ (returns-clause-ran g c)

pub returns-clause-quilt_report : goal.returns-clause-quilt_report
returns-clause-quilt_report g c = quilt_reported _ _ _ _ _ _ _ _ (returns-clause-ran g c)

pub returns-clause-looped : goal.returns-clause-looped
returns-clause-looped g c = loop_headline _ _ _ _ _ _ _ _ (returns-clause-ran g c)

pub returns-clause-one_loop : goal.returns-clause-one_loop
returns-clause-one_loop g c = loop_once _ _ _ _ _ _ _ _ (returns-clause-ran g c)

pub returns-clause-upgraded : goal.returns-clause-upgraded
returns-clause-upgraded g c = upgrade_headline _ _ _ _ _ _ _ _ (returns-clause-ran g c)

pub returns-clause-tiled : goal.returns-clause-tiled
returns-clause-tiled g c = tile_headline _ _ _ _ _ _ _ _ (returns-clause-ran g c)

pub returns-clause-one_tile : goal.returns-clause-one_tile
returns-clause-one_tile g c = tile_once _ _ _ _ _ _ _ _ (returns-clause-ran g c)

pub returns-clause-merged : goal.returns-clause-merged
returns-clause-merged g c = merge_headline _ _ _ _ _ _ _ _ (returns-clause-ran g c)

pub returns-clause-one_merge : goal.returns-clause-one_merge
returns-clause-one_merge g c = merge_once _ _ _ _ _ _ _ _ (returns-clause-ran g c)

pub returns-clause-merge_report : goal.returns-clause-merge_report
returns-clause-merge_report g c = merge_reported _ _ _ _ _ _ _ _ (returns-clause-ran g c)

pub returns-clause-transferred : goal.returns-clause-transferred
returns-clause-transferred g c = transfer_headline _ _ _ _ _ _ _ _ (returns-clause-ran g c)

pub returns-clause-one_transfer : goal.returns-clause-one_transfer
returns-clause-one_transfer g c = transfer_once _ _ _ _ _ _ _ _ (returns-clause-ran g c)

pub returns-clause-transfer_report : goal.returns-clause-transfer_report
returns-clause-transfer_report g c = transfer_reported _ _ _ _ _ _ _ _ (returns-clause-ran g c)

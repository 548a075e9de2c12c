use Rattle.std.proofs.lemmas.Grind.{common_steps}
use Rattle.std.proofs.Common.{length, take, arith, ap, sym, ◌∙◌}
use Rattle.std.proofs.lemmas.List.{append-nil, take_all}
use Rattle.job_words.specs.Names.{name_if_set}
use Rattle.job_words.proofs.Keeping.{kept_more, length-filter_map}
use Rattle.job_words.proofs.fields.more_at.Goals as goal
use Rattle.job_words.proofs.fields.more_at.Goals.{in-Some+in_ok-add_name, in_default}

pub loop-key-preserved : goal.loop-key-preserved
loop-key-preserved c =
    let keys = c.more_keys-keys.result.now in
    let names = c.loop-key.names.items in
    elim c.match-branch-2.branch [
      | in-Some+in_ok-add_name w ↦ kept_more (name_if_set c.args.settings.now) keys c.loop-key.key-index _ _ names _ c.loop-key-test.true (sym w.in-Some.is ∙ c.in_ok-name.ensures {u = tt}) c.loop-key.invariant (ap (λ v. v.items) w.names-is ∙ w.in_ok-add_name.ensures {u = tt})
      | in_default w ↦ kept_more (name_if_set c.args.settings.now) keys c.loop-key.key-index _ _ names _ c.loop-key-test.true (sym w.in_default.is ∙ c.in_ok-name.ensures {u = tt}) c.loop-key.invariant (ap (λ v. v.items) w.names-is ∙ sym (append-nil _))
    ]

pub from_vec-requires : goal.from_vec-requires
from_vec-requires c =
    let keys = c.more_keys-keys.result.now in
    let fewer = length-filter_map (name_if_set c.args.settings.now) (take c.loop-key.key-index keys) in
    let all = ap length (take_all c.loop-key.key-index keys c.loop-key-test.false) in
    omega (arith, fewer, all, ap length c.loop-key.invariant, ap length c.more_keys-keys.ensures)

pub returns : goal.returns
returns c = grind (arith, common_steps)

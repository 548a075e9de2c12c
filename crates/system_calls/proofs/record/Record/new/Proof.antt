-- The struct is made of no bytes, with the empty list.
use Rattle.std.proofs.Common.{[], ◌∷◌, refl}
use Rattle.std.proofs.raw_atomic.Walks.{proved}
use base.Fml.{Fml, ftrue}
use mir.Val.{Val, vstruct, vcons, vnil}
use types.Kit.{‵, raw, ◌$◌, ◌∵◌, !, qed, done, keep, join, suffices}
use types.Part.{agg}
use types.Run.{enter, and_then, no_more, returns}
use types.ByLocal.{alloc_all, pass_all, free_all, look_at, get, sets}
use denote.Shadow.{Pure, shadow, pure_i}
use denote.Steps.{nothing}
use denote.Triple.Entry.{on_entry}
use denote.Triple.Walked.{walk_of, says, ends_at}
use Rattle.system_calls.specs.declared.record.Record.{Record}
use Rattle.system_calls.specs.contracts.record.Record.{the_row as R}
use Rattle.system_calls.specs.contracts.record.Record.new as f
use Rattle.system_calls.proofs.record.Record.new.Statement.{statement}
use Rattle.system_calls.proofs.record.Record.new.Code as code

abbrev no_bytes : Val
no_bytes = vstruct vnil

abbrev bits : Val
bits = vstruct (vcons no_bytes vnil)

abbrev empty : Record
empty = record { of = record {}; calls = [] }

-- what is owned of it are facts alone: which bits there are
abbrev all_owned : Fml
all_owned = R.own_val empty (bits ∷ [])

facts_alone : Pure all_owned
facts_alone = ((λ fields. (tt, ((λ none. (tt, tt)), tt))), tt)

are_so : shadow all_owned
are_so = (((no_bytes ∷ [], tt), (refl, ((tt, (refl, tt)), tt))), tt)

pub new_spec : {M : Type 1} → statement M
new_spec 𝓤 𝓛 𝓜 𝓡 wired =
    let c = f.clauses 𝓛 𝓜.mem 𝓡.returns in let W = walk_of 𝓛 f.ended tt c in
    proved 𝓛 f.ended tt c 𝓜 𝓡 tt
    f.Key.name code.function (code.unfolded 𝓤 𝓛.H 𝓜 𝓡 wired)
    (λ κs. tt) (λ κs. tt) (λ κs qs bounds a _ are.
    let y : W.Ghost = ((κs, qs, bounds, a, tt), tt) in
    qed 𝓛 (raw (on_entry 𝓛 f.signature κs qs a tt) ∷ ‵ ftrue ∷ []) ∵ keep ! [] $
    enter ! _ _ _ _ _ $ alloc_all ! (λ l. pass_all ! refl tt $
    sets ! (agg ! (no_more !)) refl (tt, tt) $
    sets ! (agg ! (and_then ! (get ! refl) (no_more !))) refl (tt, (tt, tt)) $
    returns ! (look_at ! 0 refl) $ free_all ! refl $
    suffices ! _ (ends_at 𝓛 f.ended tt c y bits empty tt tt) $ says ! refl $
    pure_i ! all_owned facts_alone are_so $ nothing ! $ join ! $ nothing ! $ done !))

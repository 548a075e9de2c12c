use Rattle.std.proofs.Common.{◌≡◌, ◌*◌, ◌≤◌, length, ap, refl, sym, subst, arith}
use Rattle.file_bytes.specs.Reading.{Follows, Reading}
use Rattle.source_map.specs.declared.head.Version.{Version}
use Rattle.source_map.specs.declared.head.Version.TheVariants.{One, Two}
use Rattle.source_map.specs.MapFiles.{source_read}
use Rattle.source_map.specs.Waiting.{Extends, ExtendsIn}
use Rattle.source_map.proofs.WaitingLaws.{follows_after, grows_found}
use Rattle.source_map.proofs.waiting.take_sources.Goals as goal

one_of : (version : Version) → (version ≡ Two → ⊥) → version ≡ One
one_of One other = refl
one_of Two other = absurd (other refl)

pub returns-clause-grows : goal.returns-clause-grows
returns-clause-grows c name now =
    let read = source_read One c.args.samples.now in
    let r = c.args.file.now in
    let n = 6 * c.take_places-n.result in
    let front = c.args.sources.now.items in
    let longer = c.take_places-n.new.sources.items in
    let le : n ≤ length r.waiting = omega (arith, c.take_places-n.ensures.most, c.min.ensures, c.min-most.ensures, ap length c.waiting-waiting.ensures) in
    subst (λ version. Extends (source_read version c.args.samples.now) name now r front now c.skip.new.self longer) (sym (one_of c.args.version c.in_default.not-Two))
    (subst (λ (later : Reading). Extends read name now r front now later longer) (sym c.skip.ensures)
    (grows_found read r n front longer le (subst (λ waiting. ExtendsIn read waiting n front longer) c.waiting-waiting.ensures c.take_places-n.ensures.grows) name now))

pub returns-clause-follows : goal.returns-clause-follows
returns-clause-follows c name now follows =
    let r = c.args.file.now in
    let n = 6 * c.take_places-n.result in
    let le : n ≤ length r.waiting = omega (arith, c.take_places-n.ensures.most, c.min.ensures, c.min-most.ensures, ap length c.waiting-waiting.ensures) in
    subst (Follows name now) (sym c.skip.ensures) (follows_after name now r n le follows)

use Rattle.std.proofs.Common.{◌≡◌}
use Rattle.synth_report.specs.Texts.{what_text}
use Rattle.synth_report.proofs.say.tell_fault.Goals as goal

pub returns-in-Mark : goal.returns-in-Mark
returns-in-Mark g c =
    let same : c.from.result ≡ c.in-Mark.index = c.from.ensures in
    rw (c.in-Mark.is, ← same) c.tell_place.ensures

pub returns-in-Limit : goal.returns-in-Limit
returns-in-Limit g c =
    let same : c.text_of_what.result.now ≡ what_text c.in-Limit.what = c.text_of_what.ensures in
    rw (c.in-Limit.is, ← same) c.tell.ensures

pub returns-in-Read : goal.returns-in-Read
returns-in-Read g c = rw c.in-Read.is c.tell_file-in-Read.ensures

pub returns-in-Write : goal.returns-in-Write
returns-in-Write g c = rw c.in-Write.is c.tell_file-in-Write.ensures

pub returns-in-NoMemory : goal.returns-in-NoMemory
returns-in-NoMemory g c = rw c.in-NoMemory.is c.tell_plain.ensures

pub returns-in-NoLoop : goal.returns-in-NoLoop
returns-in-NoLoop g c = rw c.in-NoLoop.is c.tell-in-NoLoop.ensures

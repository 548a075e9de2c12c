use Rattle.std.proofs.Common.{◌≡◌}
use Rattle.job_words.specs.Keys.{key_number, key_stem}
use Rattle.synth_report.specs.Texts.{axis_text}
use Rattle.synth_report.proofs.say.tell_words.Goals as goal

pub returns-in-NoCommand : goal.returns-in-NoCommand
returns-in-NoCommand g c = rw c.in-NoCommand.is c.tell_plain.ensures

pub returns-in-UnknownCommand : goal.returns-in-UnknownCommand
returns-in-UnknownCommand g c = rw c.in-UnknownCommand.is c.tell_plain-in-UnknownCommand.ensures

pub returns-in-BadWord : goal.returns-in-BadWord
returns-in-BadWord g c = rw c.in-BadWord.is c.tell_word.ensures

pub returns-in-UnknownKey : goal.returns-in-UnknownKey
returns-in-UnknownKey g c = rw c.in-UnknownKey.is c.tell_word-in-UnknownKey.ensures

pub returns-in-Repeated : goal.returns-in-Repeated
returns-in-Repeated g c = rw c.in-Repeated.is c.tell_word-in-Repeated.ensures

pub returns-in-Missing : goal.returns-in-Missing
returns-in-Missing g c =
    let stem : c.stem.result.now ≡ key_stem c.in-Missing.key = c.stem.ensures in
    let number : c.number.result ≡ key_number c.in-Missing.key = c.number.ensures in
    rw (c.in-Missing.is, ← stem, ← number) c.tell.ensures

pub returns-in-BadValue : goal.returns-in-BadValue
returns-in-BadValue g c = rw c.in-BadValue.is c.tell_word-in-BadValue.ensures

pub returns-in-OutOfRange : goal.returns-in-OutOfRange
returns-in-OutOfRange g c = rw c.in-OutOfRange.is c.tell_word-in-OutOfRange.ensures

pub returns-in-SameName : goal.returns-in-SameName
returns-in-SameName g c = rw c.in-SameName.is c.tell_word-in-SameName.ensures

pub returns-in-NoMemory : goal.returns-in-NoMemory
returns-in-NoMemory g c = rw c.in-NoMemory.is c.tell_plain-in-NoMemory.ensures

pub returns-in-Narrow : goal.returns-in-Narrow
returns-in-Narrow g c =
    let same : c.text_of_axis.result.now ≡ axis_text c.in-Narrow.axis = c.text_of_axis.ensures in
    rw (c.in-Narrow.is, ← same) c.tell-in-Narrow.ensures

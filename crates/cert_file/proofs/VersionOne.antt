-- Cut records of version 1 are read by both readers.
use Rattle.std.proofs.Common.{◌≡◌, ℕ, List, ap, sym, ◌∙◌, subst, arith}
use Rattle.std.specs.Int.{w32}
use Rattle.std.specs.Prelude.{Result, Ok}
use Rattle.shelf_traits.specs.declared.fault.ReadError.{ReadError}
use Rattle.cut_check.specs.declared.record.CutRecord.{CutRecord}
use Rattle.source_map.specs.declared.head.Head.{Head}
use Rattle.source_map.specs.declared.head.Version.TheVariants.{One}
use Rattle.source_map.specs.Heads.{head_read}
use Rattle.source_map.specs.Readings.{◌>>=◌, number_read}
use Rattle.source_map.proofs.Spelled.{peel, same_value}
use Rattle.source_map.proofs.Fewer.{both_more, head_more, head_version, head_zero}
use Rattle.cert_file.specs.declared.file.RecordFile.{RecordFile}
use Rattle.cert_file.specs.declared.file.RecordFile.TheVariants.{Cuts}
use Rattle.cert_file.specs.CutReading.{cuts_read}
use Rattle.cert_file.specs.RecordFiles.{AreVersionOneCuts, IsRecordFileOf, IsReadByBoth, cuts_file_read, kinds, record_magic, records_read, versions}
use Rattle.cert_file.specs.Rules.{any_rule, end_rule}

-- what follows a head of version 1 is cut records with that head
cuts_of : (head : Head) (at : ℕ) (bytes : List ℕ) (file : RecordFile) → head.version ≡ One → cuts_file_read head at bytes ≡ Ok file → AreVersionOneCuts file
cuts_of head at bytes file version is =
    let a = peel {A = ℕ × ℕ} {C = RecordFile} (number_read w32 any_rule at bytes)
    (λ n. cuts_read head.version head.samples n.0 n.1 bytes >>= λ cuts. end_rule cuts.1 bytes >>= λ end. Ok (Cuts head cuts.0)) file is in
    let b = peel {A = List CutRecord × ℕ} {C = RecordFile} (cuts_read head.version head.samples a.x.0 a.x.1 bytes) (λ cuts. end_rule cuts.1 bytes >>= λ end. Ok (Cuts head cuts.0)) file a.two in
    let c = peel {A = Unit {0}} {C = RecordFile} (end_rule b.x.1 bytes) (λ end. Ok (Cuts head b.x.0)) file b.two in
    subst AreVersionOneCuts (same_value {A = RecordFile} (Cuts head b.x.0) file c.two) version

pub version_one_is_read : (bytes : List ℕ) (file : RecordFile) → IsReadByBoth bytes file
version_one_is_read bytes file is =
    let first = λ (h : (Head × ℕ) × ℕ). cuts_file_read h.0.0 h.1 bytes in
    let whole : IsRecordFileOf bytes file =
    both_more {A = (Head × ℕ) × ℕ} {B = RecordFile} (head_read record_magic 1 1 0 bytes) (head_read record_magic versions kinds 0 bytes)
    first (λ h. records_read h.0.1 h.0.0 h.1 bytes)
    (head_more record_magic 1 versions 1 kinds (omega arith) (omega arith) 0 bytes)
    (λ h y found so. ap (λ k. records_read k h.0.0 h.1 bytes) (head_zero record_magic 1 0 bytes h.0 h.1 found) ∙ so)
    file is in
    let a = peel {A = (Head × ℕ) × ℕ} {C = RecordFile} (head_read record_magic 1 1 0 bytes) first file is in
    (whole, cuts_of a.x.0.0 a.x.1 bytes file (head_version record_magic 1 0 bytes a.x.0 a.x.1 a.one) a.two)

-- A walk record that was read is spelled by the bytes.
use Rattle.std.proofs.Common.{◌≡◌, true, false, Bool, ℕ, ◌≤◌, List, [], ◌∷◌, ◌++◌, length, refl, sym, ap, ◌∙◌, subst, arith}
use Rattle.std.proofs.lemmas.Bool.{eqb-true}
use Rattle.std.proofs.lemmas.Nat.{be_bytes_8}
use Rattle.std.specs.Bool.{nat_eq}
use Rattle.std.specs.Int.{w8, w16, w32, w64}
use Rattle.std.specs.Prelude.{◌||◌, Result, Ok, Err, nat_lt, nat_le, if◌then◌else◌}
use Rattle.limits.specs.declared.bounds.TheConstants.{LONGEST_LOOP, WIDEST_GAP}
use Rattle.shelf_traits.specs.declared.fault.FormFault.TheVariants.{Form}
use Rattle.shelf_traits.specs.declared.fault.ReadError.{ReadError}
use Rattle.shelf_traits.specs.declared.fault.ReadError.TheVariants.{Bad, Limit}
use Rattle.shelf_traits.specs.declared.fault.What.TheVariants.{Loop}
use Rattle.cells.specs.declared.place.Taps.{Taps}
use Rattle.cells.specs.declared.place.Taps.TheVariants.{Four, None0, Two}
use Rattle.file_bytes.specs.Fields.{field_16, field_32, field_64, fields_16, fields_64}
use Rattle.source_map.specs.declared.head.Head.{Head}
use Rattle.source_map.specs.Heads.{head_form, head_read}
use Rattle.source_map.specs.Readings.{◌>>=◌, number_read, number_rule}
use Rattle.source_map.proofs.HeadsSpelled.{head_kind, head_stood}
use Rattle.source_map.proofs.Spelled.{Spelled, Stood, both_stood, ended, field_stood, list_count, list_stood, number_16_stood, number_32_stood, number_8_stood, otherwise, passed, peel, same_value}
use Rattle.cert_file.specs.declared.file.RecordFile.{RecordFile}
use Rattle.cert_file.specs.declared.file.RecordFile.TheVariants.{Walk}
use Rattle.cert_file.specs.declared.walk_fields.WalkStart.{WalkStart}
use Rattle.cert_file.specs.RecordFiles.{IsWalkSpelled, record_file_form, kinds, record_magic, records_read, versions, walk_file_form, walk_kind}
use Rattle.cert_file.specs.Rules.{any_rule}
use Rattle.cert_file.specs.WalkForms.{table_entries, taps_number, walk_form, walk_start_form}
use Rattle.cert_file.specs.WalkReading.{gap_rule, length_rule, taps_rule, walk_start_read}
use Rattle.cert_file.proofs.CutsSpelled.{whole_stood}
use Rattle.cert_file.proofs.ByKind.{walk_only}

length_code : (at n x : ℕ) → length_rule at n ≡ Ok x → n ≡ x
length_code at n x is =
    let some = otherwise (nat_eq n 0) (if nat_le n LONGEST_LOOP then Ok n else Err (Limit Loop n LONGEST_LOOP)) x (Bad (Form at)) is in
    (passed (nat_le n LONGEST_LOOP) n x (Limit Loop n LONGEST_LOOP) some.1).1

gap_code : (at n x : ℕ) → gap_rule at n ≡ Ok x → n ≡ x
gap_code at n x is = same_value n x (otherwise (nat_eq n 0 || nat_lt WIDEST_GAP n) (Ok n) x (Bad (Form at)) is).1

taps_code : (at n : ℕ) (x : Taps) → taps_rule at n ≡ Ok x → n ≡ taps_number x
taps_code at n x is = zero (nat_eq n 0) refl is
  where
    four : (b : Bool) → nat_eq n 4 ≡ b → (if b then Ok Four else Err (Bad (Form at))) ≡ Ok x → n ≡ taps_number x
    four b e so = let p = passed b Four x (Bad (Form at)) so in eqb-true n 4 (e ∙ p.0) ∙ ap taps_number p.1

    two : (b : Bool) → nat_eq n 2 ≡ b → (if b then Ok Two else (if nat_eq n 4 then Ok Four else Err (Bad (Form at)))) ≡ Ok x → n ≡ taps_number x
    two true e so = eqb-true n 2 e ∙ ap taps_number (same_value Two x so)
    two false e so = four (nat_eq n 4) refl so

    zero : (b : Bool) → nat_eq n 0 ≡ b → (if b then Ok None0 else (if nat_eq n 2 then Ok Two else (if nat_eq n 4 then Ok Four else Err (Bad (Form at))))) ≡ Ok x → n ≡ taps_number x
    zero true e so = eqb-true n 0 e ∙ ap taps_number (same_value None0 x so)
    zero false e so = two (nat_eq n 2) refl so

start_stood : Spelled walk_start_read (λ start. walk_start_form start.length start.taps start.gap)
start_stood at bytes start end small le is =
    let ra : ℕ → List ℕ → Result (ℕ × ℕ) ReadError = number_read w32 length_rule in
    let rb : ℕ → List ℕ → Result (Taps × ℕ) ReadError = number_read w8 taps_rule in
    let rc : ℕ → List ℕ → Result (ℕ × ℕ) ReadError = number_read w16 gap_rule in
    let a = peel {A = ℕ × ℕ} {C = WalkStart × ℕ} (ra at bytes) (λ l. rb l.1 bytes >>= λ t. rc t.1 bytes >>= λ g. Ok (record { length = l.0; taps = t.0; gap = g.0 }, g.1)) (start, end) is in
    let b = peel {A = Taps × ℕ} {C = WalkStart × ℕ} (rb a.x.1 bytes) (λ t. rc t.1 bytes >>= λ g. Ok (record { length = a.x.0; taps = t.0; gap = g.0 }, g.1)) (start, end) a.two in
    let c = peel {A = ℕ × ℕ} {C = WalkStart × ℕ} (rc b.x.1 bytes) (λ g. Ok (record { length = a.x.0; taps = b.x.0; gap = g.0 }, g.1)) (start, end) b.two in
    let l = number_32_stood length_rule (λ n. n) length_code at bytes a.x.0 a.x.1 small le a.one in
    let t = number_8_stood taps_rule taps_number taps_code a.x.1 bytes b.x.0 b.x.1 small l.within b.one in
    let g = number_16_stood gap_rule (λ n. n) gap_code b.x.1 bytes c.x.0 c.x.1 small t.within c.one in
    ended {A = WalkStart} (λ start. walk_start_form start.length start.taps start.gap) (record { length = a.x.0; taps = b.x.0; gap = c.x.0 }) start at c.x.1 end bytes c.two
    (both_stood at b.x.1 c.x.1 (field_32 a.x.0 ++ taps_number b.x.0 ∷ []) (field_16 c.x.0) bytes (both_stood at a.x.1 b.x.1 (field_32 a.x.0) (taps_number b.x.0 ∷ []) bytes l t) g)

entry_stood : Spelled (number_read w64 any_rule) field_64
entry_stood at bytes x end small le is =
    let f = field_stood 8 (number_rule w64 any_rule) at bytes x end small is in
    subst (λ p. Stood at end p bytes) (sym (be_bytes_8 f.piece x f.long f.small (sym (same_value _ x f.ruled)))) f.stood

pub walk_spelled : (bytes : List ℕ) (head : Head) (taps : Taps) (gap : ℕ) (walk tables : List ℕ) → IsWalkSpelled bytes head taps gap walk tables
unfolding walk_form
walk_spelled bytes head taps gap walk tables small is =
    let value = Walk head taps gap walk tables in
    let a = peel {A = (Head × ℕ) × ℕ} {C = RecordFile} (head_read record_magic versions kinds 0 bytes) (λ h. records_read h.0.1 h.0.0 h.1 bytes) value is in
    let top = a.x.0.0 in
    let parts = walk_only a.x.0.1 top a.x.1 bytes head taps gap walk tables (head_kind record_magic versions kinds 0 bytes a.x.0 a.x.1 a.one) a.two in
    let p = parts.1 in
    let from : 0 ≤ length bytes = omega arith in
    let s = p.start.0 in
    let count = list_count (number_read w16 any_rule) s.length p.start.1 bytes p.walk.0 p.walk.1 p.walk_is in
    let h = subst (λ k. Stood 0 a.x.1 (head_form record_magic k top) bytes) parts.0 (head_stood record_magic versions kinds 0 bytes a.x.0 a.x.1 small from a.one) in
    let start = start_stood a.x.1 bytes s p.start.1 small h.within p.start_is in
    let start' = subst (λ n. Stood a.x.1 p.start.1 (walk_start_form n s.taps s.gap) bytes) (sym count) start in
    let frames = list_stood (number_read w16 any_rule) field_16 (number_16_stood any_rule (λ n. n) (λ at n x e. same_value n x e)) s.length p.start.1 bytes p.walk.0 p.walk.1 small start.within p.walk_is in
    let entries = list_stood (number_read w64 any_rule) field_64 entry_stood (table_entries top s.length) p.walk.1 bytes p.tables.0 p.tables.1 small frames.within p.tables_are in
    let f1 = walk_start_form (length p.walk.0) s.taps s.gap in
    let f2 = fields_16 p.walk.0 in
    let f3 = fields_64 p.tables.0 in
    let body = both_stood a.x.1 p.walk.1 p.tables.1 (f1 ++ f2) f3 bytes (both_stood a.x.1 p.start.1 p.walk.1 f1 f2 bytes start' frames) entries in
    let all = both_stood 0 a.x.1 p.tables.1 (head_form record_magic walk_kind top) (f1 ++ f2 ++ f3) bytes h body in
    whole_stood (walk_file_form top s.taps s.gap p.walk.0 p.tables.0) bytes p.tables.1 all p.ends ∙ ap record_file_form p.value_is

-- Cut records that were read are spelled by the bytes.
use Rattle.std.proofs.Common.{◌≡◌, true, ℕ, zero, suc, ◌+◌, ◌≤◌, ◌<◌, ◌^◌, List, [], ◌∷◌, ◌++◌, length, take, drop, get_or, refl, sym, ap, ◌∙◌, subst, arith}
use Rattle.std.proofs.lemmas.Bool.{leb-true}
use Rattle.std.proofs.lemmas.Int.{of_z-to_z}
use Rattle.std.proofs.lemmas.List.{append-nil, length-append, take_all}
use Rattle.std.proofs.lemmas.List.Concat.{flat_map-append}
use Rattle.std.proofs.lemmas.Nat.{be_bytes_2}
use Rattle.std.specs.Bool.{nat_eq}
use Rattle.std.specs.Int.{cast_signed, cast_unsigned, from_be_bytes, w16}
use Rattle.std.specs.List.{flat_map}
use Rattle.std.specs.Prelude.{pos, Bool, Result, Ok, nat_le}
use Rattle.limits.specs.declared.bounds.TheConstants.{MOST_BOX_CELLS}
use Rattle.shelf_traits.specs.declared.fault.FormFault.TheVariants.{Form}
use Rattle.shelf_traits.specs.declared.fault.ReadError.{ReadError}
use Rattle.shelf_traits.specs.declared.fault.ReadError.TheVariants.{Bad, Limit}
use Rattle.shelf_traits.specs.declared.fault.What.TheVariants.{Records}
use Rattle.cells.specs.declared.place.At.{At}
use Rattle.cells.specs.declared.place.Size.{Size}
use Rattle.cells.specs.declared.sizes.PartPlace.{PartPlace}
use Rattle.cells.specs.Places.{cell_count}
use Rattle.cells.specs.SizeLists.{stock_place}
use Rattle.boxes.specs.Pairs.{pair_count}
use Rattle.cut_check.specs.declared.record.CutRecord.{CutRecord}
use Rattle.cut_check.specs.declared.record.Flow.{Flow}
use Rattle.cut_check.specs.Records.{box_cells}
use Rattle.file_bytes.specs.Fields.{field_16, field_32}
use Rattle.source_map.specs.declared.head.Head.{Head}
use Rattle.source_map.specs.declared.head.Version.{Version}
use Rattle.source_map.specs.declared.head.Version.TheVariants.{One, Two}
use Rattle.source_map.specs.Heads.{head_form, head_read}
use Rattle.source_map.specs.MapFiles.{numbered_field, numbered_size, part_rule, place_field, place_read}
use Rattle.source_map.specs.Readings.{◌>>=◌, field_read, list_read, number_read}
use Rattle.source_map.proofs.HeadsSpelled.{head_kind, head_stood}
use Rattle.source_map.proofs.MapsSpelled.{numbered_there, part_code, place_stood, stock_one, there_is}
use Rattle.source_map.proofs.PartLaws.{part_is}
use Rattle.source_map.proofs.Spelled.{Spelled, Stood, both_stood, ended, field_stood, list_stood, none_stood, number_16_stood, number_32_stood, otherwise, passed, peel, same_first, same_value}
use Rattle.cert_file.specs.declared.file.RecordFile.{RecordFile}
use Rattle.cert_file.specs.declared.file.RecordFile.TheVariants.{Cuts}
use Rattle.cert_file.specs.CutForms.{box_size_field, choice_bytes, choice_field, cut_form, flow_field, from_field}
use Rattle.cert_file.specs.CutReading.{bits_of, box_axis_rule, box_cells_rule, box_size_read, choice_read, choice_rule, corner_rule, cut_read, each_read, flow_read, flow_rule, from_read, none_set, number_of_two}
use Rattle.cert_file.specs.RecordFiles.{AreSpelled, record_file_form, cuts_form, cuts_kind, kinds, record_magic, records_read, versions}
use Rattle.cert_file.specs.Rules.{any_rule}
use Rattle.cert_file.proofs.ChoiceSpelled.{choice_spelled}
use Rattle.cert_file.proofs.ByKind.{cuts_only}

-- a number of two bytes is spelled by them
pub two : (a b : ℕ) → a < 256 → b < 256 → field_16 (from_be_bytes w16 (a ∷ b ∷ [])) ≡ a ∷ b ∷ []
two a b sa sb = be_bytes_2 (a ∷ b ∷ []) (from_be_bytes w16 (a ∷ b ∷ [])) refl small refl
  where
    small : (i : ℕ) → get_or (a ∷ b ∷ []) i 0 < 256
    small zero = sa
    small (suc zero) = sb
    small (suc (suc i)) = omega arith

-- the corner of a box
abbrev corner_of : List ℕ → At
corner_of p = record { x = pos (number_of_two p 0); y = pos (number_of_two p 2); f = pos (number_of_two p 4) }

corner_field : (p : List ℕ) → length p ≡ 6 → ((i : ℕ) → get_or p i 0 < 256) → (corner : At) → corner_rule 0 p ≡ Ok corner → p ≡ place_field corner
corner_field (a ∷ b ∷ c ∷ d ∷ e ∷ f ∷ []) long small corner is =
    (λ i. sym (two a b (small 0) (small 1)) i ++ sym (two c d (small 2) (small 3)) i ++ sym (two e f (small 4) (small 5)) i)
    ∙ ap place_field (same_value (corner_of (a ∷ b ∷ c ∷ d ∷ e ∷ f ∷ [])) corner is)
corner_field [] long small corner is = absurd (omega (arith, long))
corner_field (a ∷ []) long small corner is = absurd (omega (arith, long))
corner_field (a ∷ b ∷ []) long small corner is = absurd (omega (arith, long))
corner_field (a ∷ b ∷ c ∷ []) long small corner is = absurd (omega (arith, long))
corner_field (a ∷ b ∷ c ∷ d ∷ []) long small corner is = absurd (omega (arith, long))
corner_field (a ∷ b ∷ c ∷ d ∷ e ∷ []) long small corner is = absurd (omega (arith, long))
corner_field (a ∷ b ∷ c ∷ d ∷ e ∷ f ∷ g ∷ p) long small corner is = absurd (omega (arith, long))

corner_stood : Spelled (field_read 6 corner_rule) place_field
corner_stood at bytes corner end small le is =
    let f = field_stood 6 corner_rule at bytes corner end small is in
    subst (λ p. Stood at end p bytes) (corner_field f.piece f.long f.small corner f.ruled) f.stood

-- the size of a box
pub box_axis_code : (at n x : ℕ) → box_axis_rule at n ≡ Ok x → n ≡ x
box_axis_code at n x is = same_value n x (otherwise (nat_eq n 0) (Ok n) x (Bad (Form at)) is).1

box_stood : (before : ℕ) → Spelled (box_size_read before) box_size_field
box_stood before at bytes size end small le is =
    let axis : ℕ → List ℕ → Result (ℕ × ℕ) ReadError = number_read w16 box_axis_rule in
    let one : Spelled axis field_16 = number_16_stood box_axis_rule (λ n. n) box_axis_code in
    let made = λ (w h f : ℕ). box_cells_rule before (record { w = w; h = h; f = f }) in
    let a = peel {A = ℕ × ℕ} {C = Size × ℕ} (axis at bytes) (λ w. axis w.1 bytes >>= λ h. axis h.1 bytes >>= λ f. made w.0 h.0 f.0 >>= λ size. Ok (size, f.1)) (size, end) is in
    let b = peel {A = ℕ × ℕ} {C = Size × ℕ} (axis a.x.1 bytes) (λ h. axis h.1 bytes >>= λ f. made a.x.0 h.0 f.0 >>= λ size. Ok (size, f.1)) (size, end) a.two in
    let c = peel {A = ℕ × ℕ} {C = Size × ℕ} (axis b.x.1 bytes) (λ f. made a.x.0 b.x.0 f.0 >>= λ size. Ok (size, f.1)) (size, end) b.two in
    let r = peel {A = Size} {C = Size × ℕ} (made a.x.0 b.x.0 c.x.0) (λ size. Ok (size, c.x.1)) (size, end) c.two in
    let box : Size = record { w = a.x.0; h = b.x.0; f = c.x.0 } in
    let same : box ≡ r.x = (passed (nat_le (before + cell_count box) MOST_BOX_CELLS) box r.x (Limit Records (before + cell_count box) MOST_BOX_CELLS) r.one).1 in
    let w = one at bytes a.x.0 a.x.1 small le a.one in
    let h = one a.x.1 bytes b.x.0 b.x.1 small w.within b.one in
    let f = one b.x.1 bytes c.x.0 c.x.1 small h.within c.one in
    ended box_size_field r.x size at c.x.1 end bytes r.two
    (subst (λ s. Stood at c.x.1 (box_size_field s) bytes) same
    (both_stood at b.x.1 c.x.1 (field_16 a.x.0 ++ field_16 b.x.0) (field_16 c.x.0) bytes (both_stood at a.x.1 b.x.1 (field_16 a.x.0) (field_16 b.x.0) bytes w h) f))

-- where the new sources begin
from_stood : (version : Version) (samples : List Size) → Spelled (from_read version samples) (from_field version samples)
from_stood One samples at bytes from end small le is =
    let a = peel {A = At × ℕ} {C = At × ℕ} (place_read (numbered_size samples 1) at bytes) (λ p. Ok (stock_place samples 1 p.0, p.1)) (from, end) is in
    let p = place_stood (numbered_size samples 1) at bytes a.x.0 a.x.1 small a.one in
    ended place_field (stock_place samples 1 a.x.0) from at a.x.1 end bytes a.two (subst (λ q. Stood at a.x.1 (place_field q) bytes) (sym (stock_one samples a.x.0)) p.stood)
from_stood Two samples at bytes from end small le is =
    let read : ℕ → List ℕ → Result (ℕ × ℕ) ReadError = number_read w16 (part_rule (length samples)) in
    let a = peel {A = ℕ × ℕ} {C = At × ℕ} (read at bytes) (λ part. place_read (numbered_size samples part.0) part.1 bytes >>= λ p. Ok (stock_place samples part.0 p.0, p.1)) (from, end) is in
    let b = peel {A = At × ℕ} {C = At × ℕ} (place_read (numbered_size samples a.x.0) a.x.1 bytes) (λ p. Ok (stock_place samples a.x.0 p.0, p.1)) (from, end) a.two in
    let f = field_stood 2 (λ at piece. part_rule (length samples) at (from_be_bytes w16 piece)) at bytes a.x.0 a.x.1 small a.one in
    let code = part_code (length samples) at (from_be_bytes w16 f.piece) a.x.0 f.ruled in
    let number : Stood at a.x.1 (field_16 a.x.0) bytes = subst (λ p. Stood at a.x.1 p bytes) (sym (be_bytes_2 f.piece a.x.0 f.long f.small (sym code.same))) f.stood in
    let p = place_stood (numbered_size samples a.x.0) a.x.1 bytes b.x.0 b.x.1 small b.one in
    let there : PartPlace = record { part = a.x.0; at = b.x.0 } in
    let source = stock_place samples a.x.0 b.x.0 in
    let found = there_is samples a.x.0 (numbered_size samples a.x.0) b.x.0 code.from (numbered_there samples a.x.0 code.from code.to) p.inside in
    let spelled : numbered_field there ≡ from_field Two samples source = ap numbered_field (sym (part_is samples source there found)) in
    ended (from_field Two samples) source from at b.x.1 end bytes b.two
    (subst (λ q. Stood at b.x.1 q bytes) spelled (both_stood at a.x.1 b.x.1 (field_16 a.x.0) (place_field b.x.0) bytes number p.stood))

-- a choice
choice_stood : (cells : ℕ) → Spelled (choice_read cells) choice_field
choice_stood cells at bytes choice end small le is =
    let f = field_stood (choice_bytes cells) (choice_rule cells) at bytes choice end small is in
    let test = passed (none_set (drop cells (bits_of f.piece))) (take cells (bits_of f.piece)) choice (Bad (Form at)) f.ruled in
    subst (λ p. Stood at end p bytes) (choice_spelled cells f.piece choice f.long f.small test.0 test.1) f.stood

-- flows
abbrev flow_of : List ℕ → Flow
flow_of p = record { x = cast_signed w16 (number_of_two p 0); y = cast_signed w16 (number_of_two p 2) }

signed_two : (a b : ℕ) → a < 256 → b < 256 → field_16 (cast_unsigned w16 (cast_signed w16 (from_be_bytes w16 (a ∷ b ∷ [])))) ≡ a ∷ b ∷ []
signed_two a b sa sb =
    let below : from_be_bytes w16 (a ∷ b ∷ []) < 2 ^ 16 = omega arith in
    ap field_16 (of_z-to_z w16 (from_be_bytes w16 (a ∷ b ∷ [])) below) ∙ two a b sa sb

flow_bytes : (p : List ℕ) → length p ≡ 4 → ((i : ℕ) → get_or p i 0 < 256) → (flow : Flow) → flow_rule 0 p ≡ Ok flow → p ≡ flow_field flow
flow_bytes (a ∷ b ∷ c ∷ d ∷ []) long small flow is =
    (λ i. sym (signed_two a b (small 0) (small 1)) i ++ sym (signed_two c d (small 2) (small 3)) i) ∙ ap flow_field (same_value (flow_of (a ∷ b ∷ c ∷ d ∷ [])) flow is)
flow_bytes [] long small flow is = absurd (omega (arith, long))
flow_bytes (a ∷ []) long small flow is = absurd (omega (arith, long))
flow_bytes (a ∷ b ∷ []) long small flow is = absurd (omega (arith, long))
flow_bytes (a ∷ b ∷ c ∷ []) long small flow is = absurd (omega (arith, long))
flow_bytes (a ∷ b ∷ c ∷ d ∷ e ∷ p) long small flow is = absurd (omega (arith, long))

flow_stood : Spelled flow_read flow_field
flow_stood at bytes flow end small le is =
    let f = field_stood 4 flow_rule at bytes flow end small is in
    subst (λ p. Stood at end p bytes) (flow_bytes f.piece f.long f.small flow f.ruled) f.stood

-- a cut record
cut_stood : (version : Version) (samples : List Size) (before : ℕ) → Spelled (cut_read version samples before) (cut_form version samples)
unfolding cut_form
cut_stood version samples before at bytes cut end small le is =
    let made = λ (corner : At) (size : Size) (from : At) (choice : List Bool) (flows : List Flow).
    let cut : CutRecord = record { placement = record { rect = record { corner = corner; size = size }; from = from }; choice = choice; flows = flows } in cut in
    let a = peel {A = At × ℕ} {C = CutRecord × ℕ} (field_read 6 corner_rule at bytes)
    (λ corner. box_size_read before corner.1 bytes >>= λ size. from_read version samples size.1 bytes >>= λ from. choice_read (cell_count size.0) from.1 bytes >>= λ choice.
    list_read flow_read (pair_count size.0) choice.1 bytes >>= λ flows. Ok (made corner.0 size.0 from.0 choice.0 flows.0, flows.1)) (cut, end) is in
    let b = peel {A = Size × ℕ} {C = CutRecord × ℕ} (box_size_read before a.x.1 bytes)
    (λ size. from_read version samples size.1 bytes >>= λ from. choice_read (cell_count size.0) from.1 bytes >>= λ choice.
    list_read flow_read (pair_count size.0) choice.1 bytes >>= λ flows. Ok (made a.x.0 size.0 from.0 choice.0 flows.0, flows.1)) (cut, end) a.two in
    let c = peel {A = At × ℕ} {C = CutRecord × ℕ} (from_read version samples b.x.1 bytes)
    (λ from. choice_read (cell_count b.x.0) from.1 bytes >>= λ choice.
    list_read flow_read (pair_count b.x.0) choice.1 bytes >>= λ flows. Ok (made a.x.0 b.x.0 from.0 choice.0 flows.0, flows.1)) (cut, end) b.two in
    let d = peel {A = List Bool × ℕ} {C = CutRecord × ℕ} (choice_read (cell_count b.x.0) c.x.1 bytes)
    (λ choice. list_read flow_read (pair_count b.x.0) choice.1 bytes >>= λ flows. Ok (made a.x.0 b.x.0 c.x.0 choice.0 flows.0, flows.1)) (cut, end) c.two in
    let e = peel {A = List Flow × ℕ} {C = CutRecord × ℕ} (list_read flow_read (pair_count b.x.0) d.x.1 bytes)
    (λ flows. Ok (made a.x.0 b.x.0 c.x.0 d.x.0 flows.0, flows.1)) (cut, end) d.two in
    let p1 = place_field a.x.0 in
    let p2 = box_size_field b.x.0 in
    let p3 = from_field version samples c.x.0 in
    let p4 = choice_field d.x.0 in
    let p5 = flat_map flow_field e.x.0 in
    let s1 = corner_stood at bytes a.x.0 a.x.1 small le a.one in
    let s2 = box_stood before a.x.1 bytes b.x.0 b.x.1 small s1.within b.one in
    let s3 = from_stood version samples b.x.1 bytes c.x.0 c.x.1 small s2.within c.one in
    let s4 = choice_stood (cell_count b.x.0) c.x.1 bytes d.x.0 d.x.1 small s3.within d.one in
    let s5 = list_stood flow_read flow_field flow_stood (pair_count b.x.0) d.x.1 bytes e.x.0 e.x.1 small s4.within e.one in
    ended (cut_form version samples) (made a.x.0 b.x.0 c.x.0 d.x.0 e.x.0) cut at e.x.1 end bytes e.two
    (both_stood at d.x.1 e.x.1 (p1 ++ p2 ++ p3 ++ p4) p5 bytes
    (both_stood at c.x.1 d.x.1 (p1 ++ p2 ++ p3) p4 bytes (both_stood at b.x.1 c.x.1 (p1 ++ p2) p3 bytes (both_stood at a.x.1 b.x.1 p1 p2 bytes s1 s2) s3) s4) s5)

-- a list, of whose items each is spelled, whatever comes before it
pub each_stood : {A : Type 0} (read : List A → ℕ → List ℕ → Result (A × ℕ) ReadError) (field : A → List ℕ) → ((front : List A) → Spelled (read front) field) → (n : ℕ) → Spelled (each_read read n) (flat_map field)
each_stood {A = A} read field one zero at bytes xs end small le is =
    ended {A = List A} (flat_map field) [] xs at at end bytes is (none_stood at bytes le)
each_stood {A = A} read field one (suc n) at bytes xs end small le is =
    let a = peel {A = List A × ℕ} {C = List A × ℕ} (each_read read n at bytes) (λ f. read f.0 f.1 bytes >>= λ l. Ok (f.0 ++ l.0 ∷ [], l.1)) (xs, end) is in
    let b = peel {A = A × ℕ} {C = List A × ℕ} (read a.x.0 a.x.1 bytes) (λ l. Ok (a.x.0 ++ l.0 ∷ [], l.1)) (xs, end) a.two in
    let front = each_stood read field one n at bytes a.x.0 a.x.1 small le a.one in
    let last = one a.x.0 a.x.1 bytes b.x.0 b.x.1 small front.within b.one in
    let all : flat_map field a.x.0 ++ field b.x.0 ≡ flat_map field (a.x.0 ++ b.x.0 ∷ []) =
    ap (λ l. flat_map field a.x.0 ++ l) (sym (append-nil (field b.x.0))) ∙ sym (flat_map-append field a.x.0 (b.x.0 ∷ [])) in
    ended {A = List A} (flat_map field) (a.x.0 ++ b.x.0 ∷ []) xs at b.x.1 end bytes b.two
    (subst (λ p. Stood at b.x.1 p bytes) all (both_stood at a.x.1 b.x.1 (flat_map field a.x.0) (field b.x.0) bytes front last))

pub each_count : {A : Type 0} (read : List A → ℕ → List ℕ → Result (A × ℕ) ReadError) (n at : ℕ) (bytes : List ℕ) (xs : List A) (end : ℕ) → each_read read n at bytes ≡ Ok (xs, end) → length xs ≡ n
each_count {A = A} read zero at bytes xs end is = ap length (sym (same_first {A = List A} [] xs at end is))
each_count {A = A} read (suc n) at bytes xs end is =
    let a = peel {A = List A × ℕ} {C = List A × ℕ} (each_read read n at bytes) (λ f. read f.0 f.1 bytes >>= λ l. Ok (f.0 ++ l.0 ∷ [], l.1)) (xs, end) is in
    let b = peel {A = A × ℕ} {C = List A × ℕ} (read a.x.0 a.x.1 bytes) (λ l. Ok (a.x.0 ++ l.0 ∷ [], l.1)) (xs, end) a.two in
    let front = each_count read n at bytes a.x.0 a.x.1 a.one in
    let all = ap length (same_first {A = List A} (a.x.0 ++ b.x.0 ∷ []) xs b.x.1 end b.two) in
    omega (arith, front, all, length-append a.x.0 (b.x.0 ∷ []))

-- the whole file
pub whole_stood : (piece bytes : List ℕ) (end : ℕ) → Stood 0 end piece bytes → nat_le (length bytes) end ≡ true → bytes ≡ piece
whole_stood piece bytes end stood ends =
    let le = leb-true (length bytes) end ends in
    sym (stood.is ∙ take_all (length piece) bytes (omega (arith, le, stood.end_is)))

pub cuts_spelled : (bytes : List ℕ) (head : Head) (cuts : List CutRecord) → AreSpelled bytes head cuts
cuts_spelled bytes head cuts small is =
    let value = Cuts head cuts in
    let a = peel {A = (Head × ℕ) × ℕ} {C = RecordFile} (head_read record_magic versions kinds 0 bytes) (λ h. records_read h.0.1 h.0.0 h.1 bytes) value is in
    let top = a.x.0.0 in
    let parts = cuts_only a.x.0.1 top a.x.1 bytes head cuts (head_kind record_magic versions kinds 0 bytes a.x.0 a.x.1 a.one) a.two in
    let p = parts.1 in
    let form = cut_form top.version top.samples in
    let read = λ (front : List CutRecord). cut_read top.version top.samples (box_cells front) in
    let start : 0 ≤ length bytes = omega arith in
    let h = subst (λ k. Stood 0 a.x.1 (head_form record_magic k top) bytes) parts.0 (head_stood record_magic versions kinds 0 bytes a.x.0 a.x.1 small start a.one) in
    let n = number_32_stood any_rule (λ n. n) (λ at n x e. same_value n x e) a.x.1 bytes p.count.0 p.count.1 small h.within p.count_is in
    let n' = subst (λ k. Stood a.x.1 p.count.1 (field_32 k) bytes) (sym (each_count read p.count.0 p.count.1 bytes p.cuts.0 p.cuts.1 p.cuts_are)) n in
    let r = each_stood read form (λ front. cut_stood top.version top.samples (box_cells front)) p.count.0 p.count.1 bytes p.cuts.0 p.cuts.1 small n.within p.cuts_are in
    let all = both_stood 0 p.count.1 p.cuts.1 (head_form record_magic cuts_kind top ++ field_32 (length p.cuts.0)) (flat_map form p.cuts.0) bytes
    (both_stood 0 a.x.1 p.count.1 (head_form record_magic cuts_kind top) (field_32 (length p.cuts.0)) bytes h n') r in
    whole_stood (cuts_form top p.cuts.0) bytes p.cuts.1 all p.ends ∙ ap record_file_form p.value_is

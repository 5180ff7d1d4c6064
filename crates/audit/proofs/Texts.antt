-- Lines that are put one after the other, and what they are lines of.
use Rattle.std.proofs.Common.{◌≡◌, ◌<◌, ◌≤◌, ◌+◌, ◌-◌, ℕ, zero, suc, List, [], ◌∷◌, ◌++◌, refl, ap, ap₂, sym, ◌∙◌, append_assoc, append-nil, arith, drop, length, get_or, map, Some}
use Rattle.std.specs.Prelude.{flat_map, slice_get, IfOk, Result, Ok, Err}
use Rattle.std.proofs.lemmas.Simd.{map-map}
use Rattle.std.specs.List.{AllZip}
use Rattle.dbus_names.specs.Texts.{Text}
use Rattle.policy_args.specs.Policy.{Policy}
use Rattle.policy_args.specs.Words.{PolicyOptions}
use Rattle.policy_args.specs.declared.entry.Entry.{Entry}
use Rattle.policy_view.specs.Notes.{Note}
use Rattle.policy_view.specs.declared.Reason.{Reason}
use Rattle.policy_view.specs.declared.Reason.TheVariants.{NotVisible, OnlySee, NoRule, BusMember, BusInterface, ArgNotVisible, ArgNotTalk, ArgNotOwn, Eavesdrop, NotOutstanding, UnknownType, BadArgument, SenderNotTalk, NameHidden, NotExpected, OwnAnswer, UnknownField}
use Rattle.recording.specs.Seen.{recording_seen}
use Rattle.recording.specs.declared.Recording.{Recording as Declared}
use Rattle.replay.specs.PlayedNotes.{notes_under}
use Rattle.audit.specs.Audit.{audit_of, audit_text, denials, denied_line, denied_lines, is_at, is_named, named, reason_line, reason_lines, reason_place, reasons, recording_line, recording_lines, rests_on, unless_named, unnamed_line, unnamed_lines, where_any}
use Rattle.audit.specs.Tallies.{SumsOf, TallyOf, tally_lines}
use Rattle.audit.specs.declared.sums.Sums.{Sums}
use Rattle.audit.specs.declared.tally.Tally.{Tally}

-- a line was put after others
pub put-step : (old new line rest all : List ℕ) → new ≡ old ++ line → old ++ (line ++ rest) ≡ all → new ++ rest ≡ all
put-step old new line rest all is so_far = ap (λ t. t ++ rest) is ∙ append_assoc old line rest ∙ so_far

pub put-all : (text rest all : List ℕ) → rest ≡ [] → text ++ rest ≡ all → text ≡ all
put-all text rest all none so_far = sym (append-nil text) ∙ ap (λ t. text ++ t) (sym none) ∙ so_far

pub same_place : (n : ℕ) → (n + 1) - 1 ≡ n
same_place n = omega arith

pub found_at : {A : Type 0} (xs : List A) (n : ℕ) → n < length xs → (x : A) × (slice_get xs n ≡ Some x)
found_at [] n lt = absurd (omega arith)
found_at (x ∷ xs) zero lt = (x, refl)
found_at (x ∷ xs) (suc n) lt = found_at xs n (omega arith)

one_more : (n : ℕ) → suc (n + 1) ≡ suc n + 1
one_more n = omega arith

pub denied-drop : (count : ℕ → ℕ) (k : ℕ) (es : List Entry) (n : ℕ) → n < length es → denied_lines count k (drop n es) ≡ where_any (count k) (denied_line k (count k)) ++ denied_lines count (k + 1) (drop (n + 1) es)
denied-drop count k [] n lt = absurd (omega arith)
denied-drop count k (e ∷ es) zero lt = refl
denied-drop count k (e ∷ es) (suc n) lt = denied-drop count k es n (omega arith) ∙ ap (λ m. where_any (count k) (denied_line k (count k)) ++ denied_lines count (k + 1) (drop m (e ∷ es))) (one_more n)

pub unnamed-drop : (names : List Text) (k : ℕ) (es : List Entry) (n : ℕ) (entry : Entry) → slice_get es n ≡ Some entry →
    unnamed_lines names k (drop n es) ≡ unless_named (is_named names entry) (unnamed_line k entry) ++ unnamed_lines names (k + 1) (drop (n + 1) es)
unnamed-drop names k [] n entry there = absurd cc
unnamed-drop names k (e ∷ es) zero entry there = let same : e ≡ entry = cc in ap (λ (x : Entry). unless_named (is_named names x) (unnamed_line k x) ++ unnamed_lines names (k + 1) es) same
unnamed-drop names k (e ∷ es) (suc n) entry there = unnamed-drop names k es n entry there ∙ ap (λ m. unless_named (is_named names entry) (unnamed_line k entry) ++ unnamed_lines names (k + 1) (drop m (e ∷ es))) (one_more n)

pub reasons-drop : (count : Reason → ℕ) (rs : List Reason) (n : ℕ) (reason : Reason) → slice_get rs n ≡ Some reason →
    reason_lines count (drop n rs) ≡ where_any (count reason) (reason_line reason (count reason)) ++ reason_lines count (drop (n + 1) rs)
reasons-drop count [] n reason there = absurd cc
reasons-drop count (r ∷ rs) zero reason there = let same : r ≡ reason = cc in ap (λ (x : Reason). where_any (count x) (reason_line x (count x)) ++ reason_lines count rs) same
reasons-drop count (r ∷ rs) (suc n) reason there = reasons-drop count rs n reason there ∙ ap (λ m. where_any (count reason) (reason_line reason (count reason)) ++ reason_lines count (drop m (r ∷ rs))) (one_more n)

-- ---- the counts

place_few : (reason : Reason) → reason_place reason < 17
place_few NotVisible = omega arith
place_few (OnlySee entry) = omega arith
place_few (NoRule entry) = omega arith
place_few BusMember = omega arith
place_few BusInterface = omega arith
place_few ArgNotVisible = omega arith
place_few ArgNotTalk = omega arith
place_few ArgNotOwn = omega arith
place_few Eavesdrop = omega arith
place_few NotOutstanding = omega arith
place_few UnknownType = omega arith
place_few BadArgument = omega arith
place_few SenderNotTalk = omega arith
place_few NameHidden = omega arith
place_few NotExpected = omega arith
place_few OwnAnswer = omega arith
place_few UnknownField = omega arith

reasons_same : (f g : Reason → ℕ) (rs : List Reason) → ((reason : Reason) → f reason ≡ g reason) → reason_lines f rs ≡ reason_lines g rs
reasons_same f g [] same = refl
reasons_same f g (r ∷ rs) same = ap₂ (λ n t. where_any n (reason_line r n) ++ t) (same r) (reasons_same f g rs same)

denied_same : (f g : ℕ → ℕ) (len number : ℕ) (es : List Entry) → ((n : ℕ) → n < len → f n ≡ g n) → number + length es ≤ len → denied_lines f number es ≡ denied_lines g number es
denied_same f g len number [] same within = refl
denied_same f g len number (e ∷ es) same within =
    ap₂ (λ n t. where_any n (denied_line number n) ++ t) (same number (omega (arith, within))) (denied_same f g len (number + 1) es same (omega (arith, within)))

recordings_same : (policy : Policy) (k : ℕ) (recordings : List (List Note)) (tallies : List Tally) → AllZip (TallyOf policy) recordings tallies → tally_lines k tallies ≡ recording_lines k recordings
recordings_same policy k [] [] zipped = refl
recordings_same policy k [] (tally ∷ tallies) zipped = elim zipped [ ]
recordings_same policy k (notes ∷ recordings) [] zipped = elim zipped [ ]
recordings_same policy k (notes ∷ recordings) (tally ∷ tallies) (tally_of, zipped) =
    ap₂ (λ line t. line ++ t) (ap₂ (λ items denied. recording_line k items denied) tally_of.items tally_of.denied) (recordings_same policy (k + 1) recordings tallies zipped)

-- ---- the text

pub text-is : (policy : Policy) (recordings : List (List Note)) (tallies : List Tally) (sums : Sums) (start first second third last : Text) → AllZip (TallyOf policy) recordings tallies →
    SumsOf policy (flat_map (λ notes. notes) recordings) sums → start ≡ [] → first ≡ start ++ tally_lines 1 tallies →
    second ≡ first ++ reason_lines (λ reason. get_or sums.reasons (reason_place reason) 0) reasons → third ≡ second ++ denied_lines (λ number. get_or sums.entries number 0) 1 policy.entries →
    last ≡ third ++ unnamed_lines (named (flat_map (λ notes. notes) recordings)) 1 policy.entries → last ≡ audit_text policy recordings
unfolding audit_text
text-is policy recordings tallies sums start first second third last zipped of none a b c d =
    let all = flat_map (λ (notes : List Note). notes) recordings in
    let recording_part : tally_lines 1 tallies ≡ recording_lines 1 recordings = recordings_same policy 1 recordings tallies zipped in
    let reason_part : reason_lines (λ reason. get_or sums.reasons (reason_place reason) 0) reasons ≡ reason_lines (λ reason. denials (is_at (reason_place reason)) all) reasons =
    reasons_same _ _ reasons (λ reason. of.reasons.at (reason_place reason) (place_few reason)) in
    let denied_part : denied_lines (λ number. get_or sums.entries number 0) 1 policy.entries ≡ denied_lines (λ number. denials (rests_on number) all) 1 policy.entries =
    denied_same _ _ (length policy.entries + 1) 1 policy.entries of.entries.at (omega arith) in
    let unnamed_part = unnamed_lines (named all) 1 policy.entries in
    let one : first ≡ recording_lines 1 recordings = a ∙ ap (λ t. t ++ tally_lines 1 tallies) none ∙ recording_part in
    let reason_text = reason_lines (λ reason. denials (is_at (reason_place reason)) all) reasons in
    let denied_text = denied_lines (λ number. denials (rests_on number) all) 1 policy.entries in
    let two : second ≡ recording_lines 1 recordings ++ reason_text = b ∙ ap₂ (λ s t. s ++ t) one reason_part in
    let three : third ≡ (recording_lines 1 recordings ++ reason_text) ++ denied_text = c ∙ ap₂ (λ s t. s ++ t) two denied_part in
    d ∙ ap (λ t. t ++ unnamed_part) three

-- each tally is of a recording's notes
pub of_notes : (policy : Policy) (f : Declared → List Note) (recordings : List Declared) (tallies : List Tally) → AllZip (λ recording tally. TallyOf policy (f recording) tally) recordings tallies →
    AllZip (TallyOf policy) (map f recordings) tallies
of_notes policy f [] [] zipped = tt
of_notes policy f [] (t ∷ tallies) zipped = elim zipped [ ]
of_notes policy f (r ∷ recordings) [] zipped = elim zipped [ ]
of_notes policy f (r ∷ recordings) (t ∷ tallies) (one, zipped) = (one, of_notes policy f recordings tallies zipped)

pub audit-is : (options : PolicyOptions) (recordings : List Declared) (text : Text) → text ≡ audit_text options.policy (map (λ r. notes_under options (recording_seen r)) recordings) →
    text ≡ audit_of options (map recording_seen recordings)
unfolding audit_of
audit-is options recordings text is = is ∙ ap (audit_text options.policy) (sym (map-map (notes_under options) recording_seen recordings))

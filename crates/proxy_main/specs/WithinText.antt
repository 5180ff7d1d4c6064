-- The lines that tell whether one policy is within another.
--
--     within                          it is; a line for each of its entries follows
--     entry N by M ..                 the entries of the other that permit what entry N permits
--     not within: REQUEST             it permits this request, and the other doesn't
--
-- A request is one of these, with a dash for an interface or a property that is not there:
--
--     call NAME PATH INTERFACE MEMBER
--     signal NAME
--     own NAME
--     owner NAME
--     broadcast NAME PATH INTERFACE MEMBER
--     property NAME PATH MEMBER INTERFACE PROPERTY
use Rattle.std.specs.Prelude.{ℕ, List, [], ◌∷◌, ◌++◌, flat_map, map, codes}
use Rattle.std.specs.Fmt.{decimal}
use Rattle.dbus_names.specs.Texts.{Text}
use Rattle.explain_log.specs.Lines.{text_word}
use Rattle.policy_args.specs.Requests.{access_member, access_property}
use Rattle.policy_args.specs.declared.requests.Asked.{Asked}
use Rattle.policy_args.specs.declared.requests.Asked.TheVariants.{Call, Signal, Own, Owner, Broadcast, Property}
use Rattle.policy_within.specs.declared.answer.CoveredEntry.{CoveredEntry}
use Rattle.policy_within.specs.declared.answer.WithinAnswer.{WithinAnswer}
use Rattle.policy_within.specs.declared.answer.WithinAnswer.TheVariants.{Yes, No}

abbrev pub request_words : Asked → List Text
request_words (Call name path interface member) = codes "call" ∷ name ∷ path ∷ text_word interface ∷ member ∷ []
request_words (Signal name) = codes "signal" ∷ name ∷ []
request_words (Own name) = codes "own" ∷ name ∷ []
request_words (Owner name) = codes "owner" ∷ name ∷ []
request_words (Broadcast name path interface member) = codes "broadcast" ∷ name ∷ path ∷ interface ∷ member ∷ []
request_words (Property name path interface access) = codes "property" ∷ name ∷ path ∷ access_member access ∷ interface ∷ text_word (access_property access) ∷ []

-- words, each after a space
abbrev pub spaced : List Text → Text
spaced words = flat_map (λ word. codes " " ++ word) words

abbrev pub covered_line : CoveredEntry → Text
covered_line covered = codes "entry " ++ decimal covered.entry ++ codes " by" ++ spaced (map (λ n. decimal n) covered.by) ++ codes "\n"

abbrev pub within_text : WithinAnswer → Text
within_text (Yes covered) = codes "within\n" ++ flat_map covered_line covered
within_text (No asked) = codes "not within:" ++ spaced (request_words asked) ++ codes "\n"

-- the status of an answer
abbrev pub within_code : WithinAnswer → ℕ
within_code (Yes covered) = 0
within_code (No asked) = 7

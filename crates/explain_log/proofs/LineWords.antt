-- What is pushed to a line, one part after the other, is the line.
use Rattle.std.proofs.Common.{◌≡◌, ℕ, List, [], ◌∷◌, ◌++◌, length, get_or, Bor, codes, decimal, refl, ap, ◌∙◌, append_assoc, append-nil, arith}
use Rattle.std.specs.Prelude.{flat_map}
use Rattle.dbus_names.specs.Texts.{Text}
use Rattle.dbus_header.specs.Message.{Message, Valid, spell, path, interface, member, destination, sender, reply_serial}
use Rattle.dbus_header.specs.Contents.{Contents, contents_of, message_in}
use Rattle.dbus_header.specs.Kinds.{kind_by, kind_of}
use Rattle.dbus_header.proofs.MessageIn.{message-is}
use Rattle.policy_view.proofs.Frames.{spelled_message}
use Rattle.policy_view.specs.Notes.{Note}
use Rattle.policy_view.specs.declared.Side.{Side}
use Rattle.policy_view.specs.declared.Decision.{Decision}
use Rattle.explain_log.specs.Laws.{TellsMessage}
use Rattle.explain_log.specs.Lines.{decision_words, line_of, log_line, number_word, side_word, text_word, type_word}

-- the two pieces of a word and the four of another, with more pieces after them
two_then : (xs : List (Bor Text)) (d : Bor Text) (word rest : Text) → length xs ≡ 2 → flat_map (λ piece. piece.now) xs ≡ word →
    (get_or xs 0 d).now ++ ((get_or xs 1 d).now ++ rest) ≡ word ++ rest
two_then (a ∷ b ∷ []) d word rest two e = rw (← e) (simp append_assoc)
two_then _ d word rest two e = absurd (omega arith)

four_then : (xs : List (Bor Text)) (d : Bor Text) (word rest : Text) → length xs ≡ 4 → flat_map (λ piece. piece.now) xs ≡ word →
    (get_or xs 0 d).now ++ ((get_or xs 1 d).now ++ ((get_or xs 2 d).now ++ ((get_or xs 3 d).now ++ rest))) ≡ word ++ rest
four_then (a ∷ b ∷ c ∷ e ∷ []) d word rest four is = rw (← is) (simp append_assoc)
four_then _ d word rest four is = absurd (omega arith)

-- the pieces of a line, as they come one after the other and as they are joined
rejoined : (space feed session side number type n₁ n₂ n₃ n₄ n₅ n₆ n₇ p₁ p₂ p₃ p₄ p₅ p₆ p₇ decision : Text) →
    session ++ ((space ++ side ++ space) ++ (number ++ ((space ++ type) ++ ((space ++ n₁) ++ (p₁ ++ ((space ++ n₂) ++ (p₂ ++ ((space ++ n₃) ++ (p₃ ++ ((space ++ n₄)
    ++ (p₄ ++ ((space ++ n₅) ++ (p₅ ++ ((space ++ n₆) ++ (p₆ ++ ((space ++ n₇) ++ (p₇ ++ ((space ++ decision) ++ (feed ++ [])))))))))))))))))))
    ≡ session ++ space ++ (side ++ space ++ (number ++ space ++ (type ++ space ++ (n₁ ++ p₁ ++ space ++ (n₂ ++ p₂ ++ space ++ (n₃ ++ p₃ ++ space ++ (n₄ ++ p₄ ++ space
    ++ (n₅ ++ p₅ ++ space ++ (n₆ ++ p₆ ++ space ++ (n₇ ++ p₇ ++ space ++ (decision ++ feed)))))))))))
rejoined space feed session side number type n₁ n₂ n₃ n₄ n₅ n₆ n₇ p₁ p₂ p₃ p₄ p₅ p₆ p₇ decision = simp (append_assoc, append-nil)

whole_line : (session : ℕ) (note : Note) →
    decimal session ++ ((codes " " ++ side_word note.side ++ codes " ") ++ (decimal note.number
    ++ ((codes " " ++ type_word (message_in note.frame).kind (kind_by (message_in note.frame).kind))
    ++ (codes " serial=" ++ (decimal (message_in note.frame).serial ++ (codes " reply=" ++ (number_word (reply_serial (message_in note.frame))
    ++ (codes " from=" ++ (text_word (sender (message_in note.frame)) ++ (codes " dest=" ++ (text_word (destination (message_in note.frame))
    ++ (codes " path=" ++ (text_word (path (message_in note.frame)) ++ (codes " iface=" ++ (text_word (interface (message_in note.frame))
    ++ (codes " member=" ++ (text_word (member (message_in note.frame)) ++ ((codes " " ++ decision_words note.decision) ++ (10 ∷ [] ++ [])))))))))))))))))))
    ≡ log_line session note
unfolding log_line kind_of
whole_line session note =
    rejoined (codes " ") (10 ∷ []) (decimal session) (side_word note.side) (decimal note.number) (type_word (message_in note.frame).kind (kind_of (message_in note.frame)))
    (codes "serial=") (codes "reply=") (codes "from=") (codes "dest=") (codes "path=") (codes "iface=") (codes "member=")
    (decimal (message_in note.frame).serial) (number_word (reply_serial (message_in note.frame))) (text_word (sender (message_in note.frame)))
    (text_word (destination (message_in note.frame))) (text_word (path (message_in note.frame))) (text_word (interface (message_in note.frame)))
    (text_word (member (message_in note.frame))) (decision_words note.decision)

-- the pieces of a line are the line
pub line_of_pieces : (session : ℕ) (note : Note) (side : Side) (number : ℕ) (seen : Contents) (decision : Decision) (kinds decided : List (Bor Text)) (d : Bor Text)
    (t₁ t₂ t₃ t₄ t₅ t₆ t₇ t₈ t₉ t₁₀ : Text) →
    side ≡ note.side → number ≡ note.number → seen ≡ contents_of (message_in note.frame) → decision ≡ note.decision →
    length kinds ≡ 2 → flat_map (λ piece. piece.now) kinds ≡ codes " " ++ type_word seen.kind (kind_by seen.kind) →
    length decided ≡ 4 → flat_map (λ piece. piece.now) decided ≡ codes " " ++ decision_words decision →
    t₁ ≡ decimal session → t₂ ≡ codes " " ++ side_word side ++ codes " " → t₃ ≡ decimal number →
    t₄ ≡ decimal seen.serial → t₅ ≡ number_word seen.parts.reply_serial → t₆ ≡ text_word seen.parts.sender → t₇ ≡ text_word seen.parts.destination →
    t₈ ≡ text_word seen.parts.path → t₉ ≡ text_word seen.parts.interface → t₁₀ ≡ text_word seen.parts.member →
    t₁ ++ (t₂ ++ (t₃ ++ ((get_or kinds 0 d).now ++ ((get_or kinds 1 d).now ++ (codes " serial=" ++ (t₄ ++ (codes " reply=" ++ (t₅ ++ (codes " from=" ++ (t₆
    ++ (codes " dest=" ++ (t₇ ++ (codes " path=" ++ (t₈ ++ (codes " iface=" ++ (t₉ ++ (codes " member=" ++ (t₁₀
    ++ ((get_or decided 0 d).now ++ ((get_or decided 1 d).now ++ ((get_or decided 2 d).now ++ ((get_or decided 3 d).now ++ (10 ∷ [] ++ [])))))))))))))))))))))))
    ≡ log_line session note
line_of_pieces session note side number seen decision kinds decided d t₁ t₂ t₃ t₄ t₅ t₆ t₇ t₈ t₉ t₁₀ s n is c two k four w e₁ e₂ e₃ e₄ e₅ e₆ e₇ e₈ e₉ e₁₀ =
    rw (
      e₁,
      e₂ ∙ ap (λ (x : Side). codes " " ++ side_word x ++ codes " ") s,
      e₃ ∙ ap (λ x. decimal x) n,
      e₄ ∙ ap (λ (x : Contents). decimal x.serial) is,
      e₅ ∙ ap (λ (x : Contents). number_word x.parts.reply_serial) is,
      e₆ ∙ ap (λ (x : Contents). text_word x.parts.sender) is,
      e₇ ∙ ap (λ (x : Contents). text_word x.parts.destination) is,
      e₈ ∙ ap (λ (x : Contents). text_word x.parts.path) is,
      e₉ ∙ ap (λ (x : Contents). text_word x.parts.interface) is,
      e₁₀ ∙ ap (λ (x : Contents). text_word x.parts.member) is,
      two_then kinds d _ _ two (k ∙ ap (λ (x : Contents). codes " " ++ type_word x.kind (kind_by x.kind)) is),
      four_then decided d _ _ four (w ∙ ap (λ (x : Decision). codes " " ++ decision_words x) c),
    ) (whole_line session note)

-- a frame that spells a message is told as it
pub tells_message : (session number : ℕ) (side : Side) (m : Message) (decision : Decision) → Valid m → TellsMessage session number side m decision
unfolding log_line
tells_message session number side m decision valid =
    ap (λ (x : Message). line_of session side number x decision) (message-is (spell m) m (spelled_message (spell m) m valid refl))

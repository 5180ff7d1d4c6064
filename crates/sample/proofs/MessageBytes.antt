-- The messages of a sample are the bytes that the code has for them.
use Rattle.std.proofs.Common.{ℕ, ◌≡◌, ◌+◌, ◌++◌, [], ◌∷◌, List, length, codes, refl, sym, ap, ap₂, ◌∙◌, arith, append-nil, length-append}
use Rattle.dbus_names.specs.Names.{bus_name}
use Rattle.dbus_values.specs.Values.{a_string}
use Rattle.dbus_values.specs.declared.Order.TheVariants.{Little}
use Rattle.dbus_header.specs.Message.{spell, with_number, spelled_list}
use Rattle.sample.specs.Fronts.{echo_template, name_of, sender_of, tick_template, with_numbers}
use Rattle.sample.specs.Sample.{echo, own_id, return, text, tick}
use Rattle.sample.specs.declared.messages.Peer.{Peer}
use Rattle.sample.specs.declared.messages.Peer.TheVariants.{A, B}
use Rattle.sample.specs.declared.messages.TheConstants.{ECHO_A, ECHO_B, TICK_A, TICK_B, ECHOED, PINGED}

-- a body of one text has four bytes of length before it and a NUL after it, at any place
echo_body : (t : List ℕ) → length t + 5 ≡ length (spelled_list Little 104 (a_string t ∷ []))
echo_body t = simp length-append (omega arith)

tick_body : (t : List ℕ) → length t + 5 ≡ length (spelled_list Little 96 (a_string t ∷ []))
tick_body t = simp length-append (omega arith)

echoed_body : (t : List ℕ) → length t + 5 ≡ length (spelled_list Little 64 (a_string t ∷ []))
echoed_body t = simp length-append (omega arith)

behind : (t : List ℕ) → t ++ 0 ∷ [] ≡ (t ++ 0 ∷ []) ++ []
behind t = sym (append-nil (t ++ 0 ∷ []))

-- the first bytes, by the lengths in them, and what follows
abbrev front_and : ℕ → ℕ → ℕ → List ℕ → ℕ → List ℕ → List ℕ
front_and place serial text_len front body_len rest =
    with_number Little place text_len (with_number Little 8 serial (with_number Little 4 body_len front)) ++ rest

pub echo_bytes : (peer : Peer) (front : List ℕ) (serial : ℕ) (t : List ℕ) → front ≡ echo_template peer → with_numbers 104 serial (length t) front ++ (t ++ 0 ∷ []) ≡ spell (echo (name_of peer) serial t)
unfolding spell
echo_bytes A front serial t e = ap (λ f. with_numbers 104 serial (length t) f ++ (t ++ 0 ∷ [])) e ∙ ap₂ (front_and 104 serial (length t) ECHO_A) (echo_body t) (behind t)
echo_bytes B front serial t e = ap (λ f. with_numbers 104 serial (length t) f ++ (t ++ 0 ∷ [])) e ∙ ap₂ (front_and 104 serial (length t) ECHO_B) (echo_body t) (behind t)

pub tick_bytes : (peer : Peer) (front : List ℕ) (serial : ℕ) (t : List ℕ) → front ≡ tick_template peer → with_numbers 96 serial (length t) front ++ (t ++ 0 ∷ []) ≡ spell (tick (sender_of peer) (name_of peer) serial t)
unfolding spell
tick_bytes A front serial t e = ap (λ f. with_numbers 96 serial (length t) f ++ (t ++ 0 ∷ [])) e ∙ ap₂ (front_and 96 serial (length t) TICK_A) (tick_body t) (behind t)
tick_bytes B front serial t e = ap (λ f. with_numbers 96 serial (length t) f ++ (t ++ 0 ∷ [])) e ∙ ap₂ (front_and 96 serial (length t) TICK_B) (tick_body t) (behind t)

pub echoed_bytes : (reply serial : ℕ) (t : List ℕ) → with_numbers 64 serial (length t) (with_number Little 20 reply ECHOED) ++ (t ++ 0 ∷ []) ≡ spell (return serial reply (codes ":1.5") own_id (text t))
unfolding spell
echoed_bytes reply serial t = ap₂ (front_and 64 serial (length t) (with_number Little 20 reply ECHOED)) (echoed_body t) (behind t)

pub pinged_bytes : (reply serial : ℕ) → with_number Little 8 serial (with_number Little 20 reply PINGED) ≡ spell (return serial reply bus_name own_id [])
unfolding spell
pinged_bytes reply serial = refl

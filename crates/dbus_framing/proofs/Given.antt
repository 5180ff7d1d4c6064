-- What was taken, and the messages of all that was pushed.
use Rattle.std.proofs.Common.{◌≡◌, ℕ, List, [], ◌∷◌, ◌++◌, Some, None, refl, sym, ap, ◌∙◌, append_assoc, append-nil}
use Rattle.std.specs.List.{flat_map, AllByRecursion}
use Rattle.std.proofs.lemmas.Grind.{flat_map-append}
use Rattle.std.proofs.lemmas.Option.{none-some, same_Some}
use Rattle.dbus_header.specs.Message.{Message, Valid, spell}
use Rattle.dbus_header.specs.Malformed.{front, fault}
use Rattle.dbus_header.specs.Stream.{split, messages, rest, bad}
use Rattle.dbus_header.proofs.StreamLaws.{split-front}
use Rattle.dbus_header.proofs.MessageAgain.{front-spell}
use Rattle.dbus_header.proofs.FaultStays.{fault_front, split_none}
use Rattle.dbus_header.specs.declared.Malformed.{Malformed}
use Rattle.dbus_framing.specs.Framing.{Takes, Gives, Stands, Follows}
use Rattle.dbus_framing.specs.declared.Next.{Next}
use Rattle.dbus_framing.specs.declared.Next.TheVariants.{Whole, Incomplete, Bad}

split-given : (given : List Message) (left : List ℕ) → AllByRecursion Valid given → split (flat_map spell given ++ left) ≡ (given ++ messages left, rest left)
split-given [] left each = refl
split-given (m ∷ given) left each =
    let tail = flat_map spell given ++ left in
    ap split (append_assoc (spell m) (flat_map spell given) left)
    ∙ split-front (spell m ++ tail) m tail (front-spell m tail each.0)
    ∙ ap (λ (q : List Message × List ℕ). (m ∷ q.0, q.1)) (split-given given left each.1)

module _ (pushed : List ℕ) (given : List Message) (left : List ℕ) (stands : Stands pushed given left) where
  split-pushed : split pushed ≡ (given ++ messages left, rest left)
  split-pushed = ap split stands.parts ∙ split-given given left stands.each

  pub given-are-messages : (messages pushed ≡ given ++ messages left) × (rest pushed ≡ rest left) × (bad pushed ≡ bad left)
  given-are-messages = (
    ap (λ (q : List Message × List ℕ). q.0) split-pushed,
    ap (λ (q : List Message × List ℕ). q.1) split-pushed,
    ap (λ (q : List Message × List ℕ). fault q.1) split-pushed,
  )

  -- if no message is first, all were taken
  pub all-given : front left ≡ None → (given ≡ messages pushed) × (bad pushed ≡ fault left)
  all-given none =
      let end = split_none left none in (
        sym (given-are-messages.0 ∙ ap (λ (q : List Message × List ℕ). given ++ q.0) end ∙ append-nil given),
        given-are-messages.2 ∙ ap (λ (q : List Message × List ℕ). fault q.1) end,
      )

each-behind : (given : List Message) (m : Message) → AllByRecursion Valid given → Valid m → AllByRecursion Valid (given ++ m ∷ [])
each-behind [] m each valid = (valid, tt)
each-behind (n ∷ given) m each valid = (each.0, each-behind given m each.1 valid)

pub pushed-more : (pushed : List ℕ) (given : List Message) (left piece : List ℕ) → Stands pushed given left → Stands (pushed ++ piece) given (left ++ piece)
pushed-more pushed given left piece s = record {
  parts = ap (λ (t : List ℕ). t ++ piece) s.parts ∙ append_assoc (flat_map spell given) left piece;
  each = s.each;
}

given-more : (pushed : List ℕ) (given : List Message) (old frame new : List ℕ) (m : Message) → Stands pushed given old → Takes old frame new m → Stands pushed (given ++ m ∷ []) new
given-more pushed given old frame new m s t = record {
  parts =
      s.parts
      ∙ ap (λ (x : List ℕ). flat_map spell given ++ x) (t.parts ∙ ap (λ (x : List ℕ). x ++ new) t.spelled)
      ∙ sym (append_assoc (flat_map spell given) (spell m) new)
      ∙ ap (λ (x : List ℕ). x ++ new) (ap (λ (x : List ℕ). flat_map spell given ++ x) (sym (append-nil (spell m))) ∙ sym (flat_map-append spell given (m ∷ [])));
  each = each-behind given m s.each t.valid;
}

stays : (pushed : List ℕ) (given : List Message) (old new : List ℕ) → new ≡ old → Stands pushed given old → Stands pushed given new
stays pushed given old new e s = record { parts = s.parts ∙ ap (λ (x : List ℕ). flat_map spell given ++ x) (sym e); each = s.each }

pub next-follows : (pushed : List ℕ) (given : List Message) (old : List ℕ) (next : Next) (new : List ℕ) → Stands pushed given old → Gives old next new → Follows pushed given next new
next-follows pushed given old (Whole frame) new s g = (g.0, g.1.spelled, given-more pushed given old frame new g.0 s g.1)
next-follows pushed given old Incomplete new s g =
    let all = all-given pushed given old s g.1 in
    (stays pushed given old new g.3 s, all.0, all.1 ∙ g.2)
next-follows pushed given old (Bad f) new s g =
    let all = all-given pushed given old s (fault_front old f g.0) in
    (stays pushed given old new g.1 s, all.0, all.1 ∙ g.0)

abbrev the_bad : Malformed → Next
the_bad f = Bad f

-- a fault is reported again
pub bad-again : (old : List ℕ) (f : Malformed) (next : Next) (new : List ℕ) → fault old ≡ Some f → Gives old next new → (next ≡ Bad f) × (fault new ≡ Some f)
bad-again old f (Whole frame) new e g = absurd (none-some (g.0, new) (sym (fault_front old f e) ∙ g.1.in_front))
bad-again old f Incomplete new e g = absurd (none-some f (sym g.2 ∙ e))
bad-again old f (Bad h) new e g = (ap the_bad (same_Some h f (sym g.0 ∙ e)), ap fault g.1 ∙ e)

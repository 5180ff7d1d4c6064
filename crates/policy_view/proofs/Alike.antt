-- Histories that give the same, and what follows them; raw bytes in two pieces or in one.
use Rattle.std.proofs.Common.{ℕ, ◌≡◌, ◌+◌, nat_le, Bool, true, false, if◌then◌else◌, List, [], ◌∷◌, ◌++◌, length, Option, Some, None, refl, ap, ap₂, ◌∙◌, sym, append-nil, append_assoc}
use Rattle.policy_args.specs.Policy.{Policy}
use Rattle.policy_view.specs.Sent.{Past}
use Rattle.policy_view.specs.Past.{Item, Line, Msg, Raw, Ended, History, past, after, due}
use Rattle.policy_view.specs.History.{end_of, placed, followed_by, followed_unless, followed_by_all, raw_item, most_sent}
use Rattle.policy_view.specs.Laws.{GivesTheSame}
use Rattle.policy_view.specs.Notes.{Note, numbered, with_note_of}
use Rattle.policy_view.specs.Outputs.{bus_bytes, client_bytes, to_bus, to_client}
use Rattle.policy_view.specs.declared.Side.{Side}
use Rattle.policy_view.specs.declared.Side.TheVariants.{Client, Bus}
use Rattle.policy_view.specs.declared.End.{End}
use Rattle.policy_view.specs.declared.End.TheVariants.{SerialsSpent}

pub same_gives : (policy : Policy) (h k : History) → h ≡ k → GivesTheSame policy h k
same_gives policy h k e = record { to_bus = ap (bus_bytes policy) e; to_client = ap (client_bytes policy) e; noted = ap (numbered policy) e; told = ap (past policy) e; end_is = ap end_of e }

pub then_gives : (policy : Policy) (a b c : History) → GivesTheSame policy a b → GivesTheSame policy b c → GivesTheSame policy a c
then_gives policy a b c p q = record { to_bus = p.to_bus ∙ q.to_bus; to_client = p.to_client ∙ q.to_client; noted = p.noted ∙ q.noted; told = p.told ∙ q.told; end_is = p.end_is ∙ q.end_is }

item_like : (policy : Policy) (h k : History) (item : Item) → GivesTheSame policy h k → GivesTheSame policy (item ∷ h) (item ∷ k)
unfolding past bus_bytes client_bytes numbered
item_like policy h k item a = record {
  to_bus = ap₂ (λ (b : List ℕ) (p : Past). b ++ to_bus policy p item) a.to_bus a.told;
  to_client = ap₂ (λ (b : List ℕ) (p : Past). b ++ to_client policy p item) a.to_client a.told;
  noted = ap₂ (λ (n : List Note × ℕ) (p : Past). with_note_of policy p item n) a.noted a.told;
  told = ap (after policy item) a.told;
  end_is = same_end item a.end_is;
}
  where
    same_end : (item : Item) → end_of h ≡ end_of k → end_of (item ∷ h) ≡ end_of (item ∷ k)
    same_end (Line side bytes) e = e
    same_end (Msg side m) e = e
    same_end (Raw side bytes) e = e
    same_end (Ended end) e = refl

unless_like : (policy : Policy) (h k : History) (item : Item) (last : Option End) → GivesTheSame policy h k → GivesTheSame policy (followed_unless last policy h item) (followed_unless last policy k item)
unless_like policy h k item (Some end) a = a
unless_like policy h k item None a =
    then_gives policy (placed policy (past policy h) item ∷ h) (placed policy (past policy h) item ∷ k) (placed policy (past policy k) item ∷ k) (item_like policy h k (placed policy (past policy h) item) a)
    (same_gives policy _ _ (ap (λ (p : Past). placed policy p item ∷ k) a.told))

by_like : (policy : Policy) (h k : History) (item : Item) → GivesTheSame policy h k → GivesTheSame policy (followed_by policy h item) (followed_by policy k item)
unfolding followed_by
by_like policy h k item a =
    then_gives policy (followed_unless (end_of h) policy h item) (followed_unless (end_of h) policy k item) (followed_unless (end_of k) policy k item) (unless_like policy h k item (end_of h) a)
    (same_gives policy _ _ (ap (λ (o : Option End). followed_unless o policy k item) a.end_is))

-- the same items follow
pub all_like : (policy : Policy) (items : List Item) (h k : History) → GivesTheSame policy h k → GivesTheSame policy (followed_by_all policy h items) (followed_by_all policy k items)
unfolding followed_by_all
all_like policy [] h k a = a
all_like policy (item ∷ items) h k a = all_like policy items (followed_by policy h item) (followed_by policy k item) (by_like policy h k item a)

-- ---- bytes in two pieces

two_items : (policy : Policy) (h : History) (side : Side) (x y : List ℕ) → GivesTheSame policy (Raw side (x ++ y) ∷ h) (Raw side y ∷ Raw side x ∷ h)
unfolding past after bus_bytes client_bytes to_bus to_client numbered
two_items policy h Client x y = record { to_bus = sym (append_assoc (bus_bytes policy h) x y); to_client = sym (append-nil (client_bytes policy h ++ [])); noted = refl; told = refl; end_is = refl }
two_items policy h Bus x y = record { to_bus = sym (append-nil (bus_bytes policy h ++ [])); to_client = sym (append_assoc (client_bytes policy h) x y); noted = refl; told = refl; end_is = refl }

-- the item, or an End in its place
abbrev raw_or_end : Bool → Side → List ℕ → Item
raw_or_end room side bytes = if room then Raw side bytes else Ended SerialsSpent

raw_placed : (policy : Policy) (h : History) (side : Side) (bytes : List ℕ) (room : Bool) → nat_le (length (past policy h).told.sent + 0) most_sent ≡ room → placed policy (past policy h) (Raw side bytes) ≡ raw_or_end room side bytes
unfolding placed due
raw_placed policy h side bytes room e = ap (λ (b : Bool). raw_or_end b side bytes) e

raw_past : (policy : Policy) (h : History) (side : Side) (bytes : List ℕ) → past policy (Raw side bytes ∷ h) ≡ past policy h
unfolding past after
raw_past policy h side bytes = refl

room_cases : (policy : Policy) (h : History) (side : Side) (x y : List ℕ) (room : Bool) → nat_le (length (past policy h).told.sent + 0) most_sent ≡ room → end_of h ≡ None
    → GivesTheSame policy (raw_or_end room side (x ++ y) ∷ h) (followed_unless (end_of (raw_or_end room side x ∷ h)) policy (raw_or_end room side x ∷ h) (Raw side y))
room_cases policy h side x y false k e = same_gives policy _ _ refl
room_cases policy h side x y true k e =
    let again : placed policy (past policy (Raw side x ∷ h)) (Raw side y) ≡ Raw side y = ap (λ (p : Past). placed policy p (Raw side y)) (raw_past policy h side x) ∙ raw_placed policy h side y true k in
    then_gives policy _ _ _ (two_items policy h side x y)
    (same_gives policy _ _ (sym (ap (λ (o : Option End). followed_unless o policy (Raw side x ∷ h) (Raw side y)) e ∙ ap (λ (i : Item). i ∷ Raw side x ∷ h) again)))

raw_two : (policy : Policy) (h : History) (side : Side) (x y : List ℕ) (last : Option End) → end_of h ≡ last → GivesTheSame policy (followed_by policy h (Raw side (x ++ y))) (followed_by policy (followed_by policy h (Raw side x)) (Raw side y))
unfolding followed_by
raw_two policy h side x y (Some end) e =
    let first : followed_unless (end_of h) policy h (Raw side x) ≡ h = ap (λ (o : Option End). followed_unless o policy h (Raw side x)) e in
    let second : followed_unless (end_of (followed_unless (end_of h) policy h (Raw side x))) policy (followed_unless (end_of h) policy h (Raw side x)) (Raw side y) ≡ h =
    ap (λ (k : History). followed_unless (end_of k) policy k (Raw side y)) first ∙ ap (λ (o : Option End). followed_unless o policy h (Raw side y)) e in
    same_gives policy _ _ (ap (λ (o : Option End). followed_unless o policy h (Raw side (x ++ y))) e ∙ sym second)
raw_two policy h side x y None e =
    let room = nat_le (length (past policy h).told.sent + 0) most_sent in
    let whole : followed_unless (end_of h) policy h (Raw side (x ++ y)) ≡ raw_or_end room side (x ++ y) ∷ h =
    ap (λ (o : Option End). followed_unless o policy h (Raw side (x ++ y))) e ∙ ap (λ (i : Item). i ∷ h) (raw_placed policy h side (x ++ y) room refl) in
    let first : followed_unless (end_of h) policy h (Raw side x) ≡ raw_or_end room side x ∷ h = ap (λ (o : Option End). followed_unless o policy h (Raw side x)) e ∙ ap (λ (i : Item). i ∷ h) (raw_placed policy h side x room refl) in
    then_gives policy _ _ _ (same_gives policy _ _ whole)
    (then_gives policy _ _ _ (room_cases policy h side x y room refl e)
    (same_gives policy _ _ (ap (λ (k : History). followed_unless (end_of k) policy k (Raw side y)) (sym first))))

pub raw_pieces : (policy : Policy) (h : History) (side : Side) (x y : List ℕ) → GivesTheSame policy (followed_by_all policy h (raw_item side (x ++ y))) (followed_by_all policy (followed_by_all policy h (raw_item side x)) (raw_item side y))
unfolding followed_by_all
raw_pieces policy h side [] y = same_gives policy _ _ refl
raw_pieces policy h side (b ∷ x) [] = same_gives policy _ _ (ap (λ (t : List ℕ). followed_by policy h (Raw side (b ∷ t))) (append-nil x))
raw_pieces policy h side (b ∷ x) (c ∷ y) = raw_two policy h side (b ∷ x) (c ∷ y) (end_of h) refl

-- Worked examples of audits.
use Rattle.std.proofs.Common.{ℕ, ◌≡◌, ◌++◌, List, [], ◌∷◌, true, false, codes, refl}
use Rattle.std.specs.Fmt.{digits}
use Rattle.std.specs.Str.{is_utf8, chars}
use Rattle.std.specs.Char.{encode_utf8}
use Rattle.dbus_names.specs.Names.{bus_name}
use Rattle.dbus_names.specs.Texts.{Text}
use Rattle.dbus_header.specs.Contents.{message_of}
use Rattle.dbus_header.specs.Kinds.{kind_of}
use Rattle.dbus_header.specs.Malformed.{head_fault, whole, fault as wire_fault, front}
use Rattle.dbus_header.specs.Message.{Message, spell}
use Rattle.dbus_header.specs.Stream.{split}
use Rattle.dbus_values.specs.Values.{Value, a_path, a_string}
use Rattle.dbus_values.specs.Walk.{walk_within}
use Rattle.dbus_values.specs.declared.Order.TheVariants.{Little}
use Rattle.dbus_types.specs.Codes.{code_of}
use Rattle.policy_args.specs.Levels as levels
use Rattle.policy_args.specs.Levels.{level_of}
use Rattle.policy_args.specs.Policy.{level, patterns_of, policy_of}
use Rattle.policy_args.specs.Words.{PolicyOptions}
use Rattle.policy_args.specs.declared.entry.Entry.{Entry}
use Rattle.policy_args.specs.declared.entry.Grant.{Grant}
use Rattle.policy_args.specs.declared.entry.Grant.TheVariants.{See as to_see, Talk as to_talk}
use Rattle.policy_view.specs.History.{stream, lines, content, found, raw, fault, is_over, arrived, placed, followed_by, followed_by_all, history}
use Rattle.policy_view.specs.Knowledge.{knowledge}
use Rattle.policy_view.specs.Notes.{numbered}
use Rattle.policy_view.specs.Own.{field, signed, ping, add_match, get_owner, list_names, answer_in_place}
use Rattle.policy_view.specs.Past.{returned_text, returned_names, used_by, judged, role, after, past, due}
use Rattle.policy_view.specs.Sent.{is_hello, asks_names, nothing_before, owed, call_at, answered, own_calls, asked}
use Rattle.policy_view.specs.Shown.{is_owner_change, bus_role, showing, shown, seen}
use Rattle.policy_view.specs.Verdicts.{client_role, demand_of, verdict}
use Rattle.recording.specs.Recording.{Event, Bytes, Recording}
use Rattle.recording.specs.declared.Side.TheVariants.{Client, Bus}
use Rattle.audit.specs.Audit.{audit_of, audit_text}

abbrev line : Text → Text
line text = text ++ 10 ∷ []

abbrev entry : Text → Grant → Entry
entry name grant = record { pattern = record { name = name; exact = true }; grant = grant }

abbrev under : List Entry → PolicyOptions
under entries = record { filter = true; log = false; policy = policy_of entries }

abbrev call : ℕ → Text → Text → Text → List Value → Message
call serial destination interface member body = record {
  order = Little;
  kind = 1;
  flags = 0;
  serial = serial;
  fields = field 1 (a_path (codes "/p")) ∷ field 2 (a_string interface) ∷ field 3 (a_string member) ∷ field 6 (a_string destination) ∷ signed body;
  body = body;
}

abbrev asks : ℕ → Text → Event
asks serial destination = Bytes Client (spell (call serial destination (codes "org.a.I") (codes "M") []))

-- one call, of a name that may be seen alone
abbrev one_call : Recording
one_call = record { auth = false; events = asks 1 (codes "org.a.S") ∷ [] }

-- three calls, of which one is of a name that isn't visible
abbrev three_calls : Recording
three_calls = record { auth = false; events = asks 1 (codes "org.a.T") ∷ asks 2 (codes "org.h.X") ∷ asks 3 (codes "org.a.T") ∷ [] }

-- a call to the bus, which is asked of a name
abbrev bus_call : Recording
bus_call = record {
  auth = false;
  events = Bytes Client (spell (call 1 bus_name bus_name (codes "NameHasOwner") (a_string (codes "org.a.S") ∷ []))) ∷ [];
}

-- the bus tells that the owner of a name changed
abbrev owner_change : Text → Event
owner_change name = Bytes Bus (spell (record {
  order = Little;
  kind = 4;
  flags = 1;
  serial = 9;
  fields = field 1 (a_path (codes "/p")) ∷ field 2 (a_string bus_name) ∷ field 3 (a_string (codes "NameOwnerChanged")) ∷ field 7 (a_string bus_name)
      ∷ signed (a_string name ∷ a_string [] ∷ a_string (codes ":1.7") ∷ []);
  body = a_string name ∷ a_string [] ∷ a_string (codes ":1.7") ∷ [];
}))

-- a name that is visible, and one that isn't
abbrev owner_changes : Recording
owner_changes = record { auth = false; events = owner_change (codes "org.a.T") ∷ owner_change (codes "org.h.X") ∷ [] }

audits :
    (audit_of (under (entry (codes "org.a.S") to_see ∷ [])) (one_call ∷ one_call ∷ [])
    ≡ line (codes "recording 1 items 1 denied 1") ++ line (codes "recording 2 items 1 denied 1") ++ line (codes "reason OnlySee 2")
    ++ line (codes "entry 1 denied 2") ++ line (codes "unnamed 1 --see=org.a.S"))
    × (audit_of (under (entry (codes "org.a.T") to_talk ∷ [])) (three_calls ∷ [])
    ≡ line (codes "recording 1 items 3 denied 1") ++ line (codes "reason NotVisible 1"))
    × (audit_of (under (entry (codes "org.a.S") to_see ∷ entry (codes "org.a.T") to_talk ∷ [])) (bus_call ∷ one_call ∷ [])
    ≡ line (codes "recording 1 items 1 denied 0") ++ line (codes "recording 2 items 1 denied 1") ++ line (codes "reason OnlySee 1")
    ++ line (codes "entry 1 denied 1") ++ line (codes "unnamed 2 --talk=org.a.T"))
    × (audit_of (under (entry (codes "org.a.S") to_see ∷ entry (codes "org.a.T") to_talk ∷ [])) (owner_changes ∷ [])
    ≡ line (codes "recording 1 items 2 denied 0") ++ line (codes "unnamed 1 --see=org.a.S"))
unfolding digits is_utf8 chars encode_utf8 message_of kind_of head_fault whole wire_fault front spell split walk_within code_of level_of level patterns_of stream lines content found raw fault is_over arrived placed followed_by followed_by_all history knowledge numbered ping add_match get_owner list_names answer_in_place returned_text returned_names used_by judged role after past due is_hello asks_names nothing_before owed call_at answered own_calls asked is_owner_change bus_role showing shown seen client_role demand_of verdict audit_of audit_text levels.entries
audits = (refl, refl, refl, refl)

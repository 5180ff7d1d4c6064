-- Worked examples of samples and of their summaries.
use Rattle.std.proofs.Common.{ℕ, ◌≡◌, ◌++◌, [], ◌∷◌, length, codes, refl}
use Rattle.std.specs.Fmt.{digits}
use Rattle.std.specs.Str.{is_utf8, chars}
use Rattle.std.specs.Char.{encode_utf8}
use Rattle.dbus_names.specs.Texts.{Text}
use Rattle.dbus_header.specs.Contents.{message_of}
use Rattle.dbus_header.specs.Kinds.{kind_of}
use Rattle.dbus_header.specs.Malformed.{head_fault, whole, fault as wire_fault, front}
use Rattle.dbus_header.specs.Message.{spell}
use Rattle.dbus_header.specs.Stream.{split}
use Rattle.dbus_values.specs.Walk.{walk_within}
use Rattle.dbus_types.specs.Codes.{code_of}
use Rattle.policy_args.specs.Levels.{level_of}
use Rattle.policy_args.specs.Policy.{level, patterns_of}
use Rattle.policy_view.specs.History.{stream, lines, content, found, raw, fault, is_over, arrived, placed, followed_by, followed_by_all, history}
use Rattle.policy_view.specs.Knowledge.{knowledge}
use Rattle.policy_view.specs.Notes.{numbered}
use Rattle.policy_view.specs.Outputs.{to_bus, bus_bytes, seen_of, to_client, client_bytes}
use Rattle.policy_view.specs.Own.{ping, add_match, get_owner, list_names, answer_in_place}
use Rattle.policy_view.specs.Past.{returned_text, returned_names, used_by, judged, role, after, past, due}
use Rattle.policy_view.specs.Sent.{is_hello, asks_names, nothing_before, owed, call_at, answered, own_calls, asked}
use Rattle.policy_view.specs.Shown.{is_owner_change, bus_role, showing, shown, seen}
use Rattle.policy_view.specs.Verdicts.{client_role, demand_of, verdict}
use Rattle.recording.specs.Recording.{spelled_recording}
use Rattle.sample.specs.Sample.{sample}
use Rattle.sample.specs.Summary.{sample_history, sample_options, summary_of}

sample_bytes : length (spelled_recording (sample 0 1)) ≡ 405
unfolding spell sample spelled_recording
sample_bytes = refl

abbrev summary : ℕ → ℕ → Text
summary n seed = summary_of sample_options.policy (sample_history n seed)

-- without a draw, and with draws of the kinds 2, 2 and 1
summaries :
    (summary 0 1 ≡ codes "items 4 passed 1 pings 0 shown 1 instead 0 hidden 2 to-bus 560 to-client 90" ++ 10 ∷ [])
    × (summary 3 1 ≡ codes "items 8 passed 1 pings 1 shown 3 instead 1 hidden 2 to-bus 680 to-client 434" ++ 10 ∷ [])
unfolding digits is_utf8 chars encode_utf8 message_of kind_of head_fault whole wire_fault front spell split walk_within code_of level_of level patterns_of stream lines content found raw fault is_over arrived placed followed_by followed_by_all history knowledge numbered to_bus bus_bytes seen_of to_client client_bytes ping add_match get_owner list_names answer_in_place returned_text returned_names used_by judged role after past due is_hello asks_names nothing_before owed call_at answered own_calls asked is_owner_change bus_role showing shown seen client_role demand_of verdict sample summary_of
summaries = (refl, refl)

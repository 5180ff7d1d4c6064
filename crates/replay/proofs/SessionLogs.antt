-- The log of many sessions, as it is written line by line.
use Rattle.std.proofs.Common.{◌≡◌, ◌≤◌, ◌<◌, ◌+◌, ℕ, List, [], ◌∷◌, ◌++◌, Option, refl, ap, sym, ◌∙◌, subst, append_assoc, append-nil, arith, length, take, drop, map, get_or}
use Rattle.std.proofs.lemmas.Grind.{flat_map-append}
use Rattle.std.proofs.lemmas.List.{map-append, drop_more, take-append-drop, take_all, take_more}
use Rattle.explain_log.specs.Lines.{log, log_line}
use Rattle.link_traits.specs.Told.{added, Part}
use Rattle.link_traits.proofs.Parts.{added-none, part_middle, part_second, then_all}
use Rattle.policy_view.specs.Notes.{Note}
use Rattle.replay.specs.Logging.{Joins, LineRefused, WholeSessionLines}
use Rattle.replay.specs.SessionsOutput.{in_session, session_log}
use Rattle.replay.specs.declared.session_notes.SessionNote.{SessionNote}

abbrev line_in : SessionNote → List ℕ
line_in n = log_line n.session n.note

session-log-append : (a b : List SessionNote) → session_log (a ++ b) ≡ session_log a ++ session_log b
session-log-append a b = flat_map-append line_in a b

session-log-more : (taken : List SessionNote) (n : SessionNote) → session_log (taken ++ n ∷ []) ≡ session_log taken ++ line_in n
session-log-more taken n = session-log-append taken (n ∷ []) ∙ ap (λ t. session_log taken ++ t) (append-nil (line_in n))

-- of the lines of these notes these bytes are still to be written
pub record SessionsLogged (told new : Option (List ℕ)) (left : List ℕ) (taken : List SessionNote) : Type 0 where
  pub got : List ℕ
  pub lines : session_log taken ≡ got ++ left
  pub is : new ≡ added got told

pub logged-start : (told : Option (List ℕ)) (left : List ℕ) → left ≡ [] → SessionsLogged told told left []
logged-start told left none = record { got = []; lines = sym none; is = sym (added-none told) }

pub logged-step : (told before after : Option (List ℕ)) (joined left : List ℕ) (taken : List SessionNote) (n : SessionNote) → SessionsLogged told before joined taken →
    Joins before after (joined ++ line_in n) left → SessionsLogged told after left (taken ++ n ∷ [])
logged-step told before after joined left taken n logged joins = record {
  got = logged.got ++ joins.got;
  lines = session-log-more taken n ∙ ap (λ t. t ++ line_in n) logged.lines ∙ append_assoc logged.got joined (line_in n)
      ∙ ap (λ t. logged.got ++ t) joins.split ∙ sym (append_assoc logged.got joins.got left);
  is = then_all told before after logged.got joins.got logged.is joins.is;
}

-- the notes before one, the one, and the others
pub notes-at : (ns : List SessionNote) (i : ℕ) (n : SessionNote) → i < length ns → n ≡ get_or ns i n → ns ≡ take i ns ++ n ∷ drop (i + 1) ns
notes-at ns i n lt is = sym (take-append-drop i ns) ∙ ap (λ xs. take i ns ++ xs) (drop_more ns i n lt ∙ ap (λ x. x ∷ drop (i + 1) ns) (sym is))

pub notes-more : (ns : List SessionNote) (i : ℕ) (n : SessionNote) → i < length ns → n ≡ get_or ns i n → take (i + 1) ns ≡ take i ns ++ n ∷ []
notes-more ns i n lt is = take_more ns i n lt ∙ ap (λ x. take i ns ++ x ∷ []) (sym is)

-- a prefix of what was joined with the next line was written, after what was written before
pub logged-part : (ns taken rest : List SessionNote) (n : SessionNote) (told before after : Option (List ℕ)) (joined : List ℕ) → ns ≡ taken ++ n ∷ rest → SessionsLogged told before joined taken →
    Part before after (joined ++ line_in n) → Part told after (session_log ns)
logged-part ns taken rest n told before after joined split logged part =
    part_middle told before after (session_log ns) logged.got (joined ++ line_in n) (session_log rest) logged.is part
    (ap session_log split ∙ session-log-append taken (n ∷ rest) ∙ ap (λ t. t ++ (line_in n ++ session_log rest)) logged.lines
    ∙ append_assoc logged.got joined (line_in n ++ session_log rest) ∙ ap (λ t. logged.got ++ t) (sym (append_assoc joined (line_in n) (session_log rest))))

-- memory was refused for the next line, and what was joined was written
pub logged-refused : (ns taken rest : List SessionNote) (n : SessionNote) (told before after : Option (List ℕ)) (joined : List ℕ) → ns ≡ taken ++ n ∷ rest → SessionsLogged told before joined taken →
    after ≡ added joined before → WholeSessionLines told after ns
logged-refused ns taken rest n told before after joined split logged got = record {
  written = taken;
  others = n ∷ rest;
  split = split;
  is = then_all told before after logged.got joined logged.is got ∙ ap (λ t. added t told) (sym logged.lines);
}

-- all notes were taken
pub logged-end : (told new : Option (List ℕ)) (left : List ℕ) (ns : List SessionNote) (i : ℕ) → length ns ≤ i → SessionsLogged told new left (take i ns) → SessionsLogged told new left ns
logged-end told new left ns i all logged = subst (λ taken. SessionsLogged told new left taken) (take_all i ns all) logged

-- there is a note where something is to be written
pub logged-some : (told new : Option (List ℕ)) (left : List ℕ) (taken : List SessionNote) → SessionsLogged told new left taken → ((left ≡ []) → ⊥) → 0 < length taken
logged-some told new left [] logged some = absurd (some (nothing logged.got logged.lines))
  where
    nothing : (got : List ℕ) → [] ≡ got ++ left → left ≡ []
    nothing [] e = sym e
    nothing (x ∷ got) e = cc
logged-some told new left (n ∷ taken) logged some = omega arith

module _ (told new : Option (List ℕ)) (left : List ℕ) (taken : List SessionNote) (logged : SessionsLogged told new left taken) where
  -- nothing is left to be written
  pub logged-all : left ≡ [] → new ≡ added (session_log taken) told
  logged-all nothing = logged.is ∙ ap (λ t. added t told) (sym (logged.lines ∙ ap (λ t. logged.got ++ t) nothing ∙ append-nil logged.got))

  -- or what was left was written then
  pub logged-then : (after : Option (List ℕ)) → after ≡ added left new → after ≡ added (session_log taken) told
  logged-then after got = then_all told new after logged.got left logged.is got ∙ ap (λ t. added t told) (sym logged.lines)

  -- or a prefix of it
  pub logged-last : (after : Option (List ℕ)) → Part new after left → Part told after (session_log taken)
  logged-last after part = subst (λ t. Part told after t) (sym logged.lines) (part_second told new after logged.got left logged.is part)

-- ---- whole lines of a log

pub session-log-of : (ns : List Note) → log 1 ns ≡ session_log (map (in_session 1) ns)
session-log-of [] = refl
session-log-of (n ∷ ns) = ap (λ t. log_line 1 n ++ t) (session-log-of ns)

-- a line of one session was refused memory, and those before it were written
pub one-refused : (told new : Option (List ℕ)) (ns left : List Note) (noted : List SessionNote) → map (in_session 1) ns ≡ noted → LineRefused told new ns left → WholeSessionLines told new noted
one-refused told new ns left noted e refused = record {
  written = map (in_session 1) refused.before;
  others = map (in_session 1) (refused.note ∷ left);
  split = sym e ∙ ap (map (in_session 1)) refused.split ∙ map-append (in_session 1) refused.before (refused.note ∷ left);
  is = refused.is ∙ ap (λ t. added t told) (session-log-of refused.before);
}

-- none of the lines was written
pub no-session-lines : (told : Option (List ℕ)) (noted : List SessionNote) → WholeSessionLines told told noted
no-session-lines told noted = record { written = []; others = noted; split = refl; is = sym (added-none told) }

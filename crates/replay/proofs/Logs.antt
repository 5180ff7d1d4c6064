-- The log of a session, as it is written line by line.
use Rattle.std.proofs.Common.{◌≡◌, ◌<◌, ℕ, List, [], ◌∷◌, ◌++◌, Option, Result, Ok, Err, is_err, OnErr, Bool, true, false, if◌then◌else◌, refl, ap, sym, ◌∙◌, subst, arith, length, append_assoc, append-nil}
use Rattle.std.proofs.lemmas.Grind.{flat_map-append}
use Rattle.std.proofs.lemmas.List.{length-append}
use Rattle.std.proofs.lemmas.Result.{err_from_is_err_and}
use Rattle.std.specs.Prelude.{IsErrOf}
use Rattle.std.specs.Result.{IsErrAnd}
use Rattle.std.specs.declared.alloc.AllocError.{AllocError}
use Rattle.replay.specs.declared.ReplayFault.{ReplayFault}
use Rattle.link_traits.specs.Told.{added, Part}
use Rattle.link_traits.proofs.Parts.{added-none, part_first, part_middle, part_second, then_all}
use Rattle.explain_log.specs.Lines.{log_line, log}
use Rattle.policy_args.specs.Words.{PolicyOptions}
use Rattle.policy_view.specs.History.{history}
use Rattle.policy_view.specs.Notes.{Note, notes}
use Rattle.policy_view.specs.declared.Mode.{Mode}
use Rattle.proxy_core.specs.Sessions.{SessionView, Holds, nothing}
use Rattle.recording.specs.Recording.{Recording}
use Rattle.replay.specs.Logging.{Joins, LineRefused, WholeLines}
use Rattle.replay_output.specs.Output.{mode_of, history_of, log_of_recording, events_of}
use Rattle.replay_output.specs.Explained.{noting_as, with_log}

log-append : (a b : List Note) → log 1 (a ++ b) ≡ log 1 a ++ log 1 b
log-append a b = flat_map-append (log_line 1) a b

-- of the lines of the first notes these bytes are still to be written, and the other notes wait
pub record Logged (start now : SessionView) (told new : Option (List ℕ)) (left : List ℕ) (taken : List Note) : Type 0 where
  pub split : start.notes ≡ taken ++ now.notes
  pub same : now ≡ record start { notes = now.notes }
  pub got : List ℕ
  pub lines : log 1 taken ≡ got ++ left
  pub is : new ≡ added got told

pub log-start : (start : SessionView) (told : Option (List ℕ)) (left : List ℕ) → left ≡ [] → Logged start start told told left []
log-start start told left none = record { split = refl; same = refl; got = []; lines = sym none; is = sym (added-none told) }

log-more : (taken : List Note) (note : Note) → log 1 (taken ++ note ∷ []) ≡ log 1 taken ++ log_line 1 note
log-more taken note = log-append taken (note ∷ []) ∙ ap (λ t. log 1 taken ++ t) (append-nil (log_line 1 note))

pub log-step : (start old new : SessionView) (told before after : Option (List ℕ)) (joined left : List ℕ) (taken rest : List Note) (note : Note) → Logged start old told before joined taken →
    old.notes ≡ note ∷ rest → new ≡ record old { notes = rest } → Joins before after (joined ++ log_line 1 note) left → Logged start new told after left (taken ++ note ∷ [])
log-step start old new told before after joined left taken rest note logged next took joins = record {
  split = logged.split ∙ ap (λ ns. taken ++ ns) next ∙ sym (append_assoc taken (note ∷ []) rest)
      ∙ ap (λ (v : SessionView). (taken ++ note ∷ []) ++ v.notes) (sym took);
  same = took ∙ ap (λ (v : SessionView). record v { notes = rest }) logged.same ∙ ap (λ (v : SessionView). record start { notes = v.notes }) (sym took);
  got = logged.got ++ joins.got;
  lines = log-more taken note ∙ ap (λ t. t ++ log_line 1 note) logged.lines ∙ append_assoc logged.got joined (log_line 1 note)
      ∙ ap (λ t. logged.got ++ t) joins.split ∙ sym (append_assoc logged.got joins.got left);
  is = then_all told before after logged.got joins.got logged.is joins.is;
}

-- a front of what was joined with the next line was written, and what was written before
pub log-part : (start old : SessionView) (told before after : Option (List ℕ)) (joined : List ℕ) (taken rest : List Note) (note : Note) → Logged start old told before joined taken →
    old.notes ≡ note ∷ rest → Part before after (joined ++ log_line 1 note) → Part told after (log 1 start.notes)
log-part start old told before after joined taken rest note logged next part =
    part_middle told before after (log 1 start.notes) logged.got (joined ++ log_line 1 note) (log 1 rest) logged.is part
    (ap (log 1) logged.split ∙ log-append taken old.notes ∙ ap (λ ns. log 1 taken ++ log 1 ns) next ∙ ap (λ t. t ++ (log_line 1 note ++ log 1 rest)) logged.lines
    ∙ append_assoc logged.got joined (log_line 1 note ++ log 1 rest) ∙ ap (λ t. logged.got ++ t) (sym (append_assoc joined (log_line 1 note) (log 1 rest))))

-- a fault that is passed on
pub same_fault : (r s : Result (Unit {0}) ReplayFault) (e x : ReplayFault) → IsErrAnd r (λ y. y ≡ e) → s ≡ Err e → IsErrOf r x → IsErrOf s x
same_fault r s e x given was is = let p = err_from_is_err_and r given in subst (λ t. IsErrOf t x) (p.1 ∙ ap Err p.2 ∙ sym was) is

-- a line was refused memory, and a prefix of those before it was written
pub front_before : (r : Result (Unit {0}) AllocError) (told new : Option (List ℕ)) (joined left line : List ℕ) → is_err r ≡ true → OnErr r (left ≡ joined) → Part told new left → Part told new (joined ++ line)
front_before (Ok x) told new joined left line e same part = cc
front_before (Err x) told new joined left line e same part = part_first told new joined line (subst (λ l. Part told new l) same part)

-- memory was refused for the next line, and what was joined was written
pub log-refused : (start old new : SessionView) (told before after : Option (List ℕ)) (joined : List ℕ) (taken rest : List Note) (note : Note) → Logged start old told before joined taken →
    old.notes ≡ note ∷ rest → new ≡ record old { notes = rest } → after ≡ added joined before → LineRefused told after start.notes new.notes
log-refused start old new told before after joined taken rest note logged next took got = record {
  before = taken;
  note = note;
  split = logged.split ∙ ap (λ ns. taken ++ ns) next ∙ ap (λ (v : SessionView). taken ++ note ∷ v.notes) (sym took);
  is = then_all told before after logged.got joined logged.is got ∙ ap (λ t. added t told) (sym logged.lines);
}

-- a note waited
pub log-some : (start old : SessionView) (told before : Option (List ℕ)) (joined : List ℕ) (taken rest : List Note) (note : Note) → Logged start old told before joined taken →
    old.notes ≡ note ∷ rest → 0 < length start.notes
log-some start old told before joined taken rest note logged next =
    subst (λ n. 0 < n) (sym (ap length (logged.split ∙ ap (λ ns. taken ++ ns) next) ∙ length-append taken (note ∷ rest))) (omega arith)

-- .. or was taken, if something is still to be written
pub log-some-joined : (start now : SessionView) (told new : Option (List ℕ)) (left : List ℕ) (taken : List Note) → Logged start now told new left taken → ((left ≡ []) → ⊥) → 0 < length start.notes
log-some-joined start now told new left [] logged some = absurd (some (nothing logged.got logged.lines))
  where
    nothing : (got : List ℕ) → [] ≡ got ++ left → left ≡ []
    nothing [] e = sym e
    nothing (x ∷ got) e = cc
log-some-joined start now told new left (note ∷ taken) logged some = subst (λ n. 0 < n) (sym (ap length logged.split)) (omega arith)

module _ (start now : SessionView) (told new : Option (List ℕ)) (left : List ℕ) (taken : List Note) (logged : Logged start now told new left taken) (none : now.notes ≡ []) where
  all_lines : log 1 start.notes ≡ logged.got ++ left
  all_lines = ap (log 1) (logged.split ∙ ap (λ ns. taken ++ ns) none ∙ append-nil taken) ∙ logged.lines

  -- all lines were written: nothing was left, or what was left was written then
  pub log-all : left ≡ [] → new ≡ added (log 1 start.notes) told
  log-all nothing = logged.is ∙ ap (λ t. added t told) (sym (all_lines ∙ ap (λ t. logged.got ++ t) nothing ∙ append-nil logged.got))

  pub log-then : (after : Option (List ℕ)) → after ≡ added left new → after ≡ added (log 1 start.notes) told
  log-then after got = then_all told new after logged.got left logged.is got ∙ ap (λ t. added t told) (sym all_lines)

  -- .. or a prefix of it
  pub log-last : (after : Option (List ℕ)) → Part new after left → Part told after (log 1 start.notes)
  log-last after part = subst (λ t. Part told after t) (sym all_lines) (part_second told new after logged.got left logged.is part)

-- a log of notes that are made if they are asked for
where-asked : (asked : Bool) (ns : List Note) → log 1 (if asked then ns else []) ≡ (if asked then log 1 ns else [])
where-asked true ns = refl
where-asked false ns = refl

-- a session that holds the history of a recording has its log
pub log-is : (options : PolicyOptions) (r : Recording) (v : SessionView) → v.mode ≡ mode_of options r →
    Holds options.policy v (history options.policy v.mode (events_of r.events)) nothing → log 1 v.notes ≡ log_of_recording options r
unfolding log_of_recording
log-is options r v mode holds = ap (log 1) holds.noted
    ∙ ap (λ m. log 1 (if m.notes then notes options.policy (history options.policy m (events_of r.events)) else [])) mode
    ∙ where-asked options.log (notes options.policy (history_of options r))

-- none of its lines was written
pub no-lines : (options : PolicyOptions) (r : Recording) (told : Option (List ℕ)) → WholeLines told told (log_of_recording options r)
unfolding log_of_recording
no-lines options r told = record {
  written = [];
  others = if options.log then notes options.policy (history_of options r) else [];
  split = sym (where-asked options.log (notes options.policy (history_of options r)));
  is = sym (added-none told);
}

-- or those before one that was refused memory
pub lines-before : (told new : Option (List ℕ)) (ns left : List Note) (all : List ℕ) → log 1 ns ≡ all → LineRefused told new ns left → WholeLines told new all
lines-before told new ns left all e refused = record {
  written = refused.before;
  others = refused.note ∷ left;
  split = sym e ∙ ap (log 1) refused.split ∙ log-append refused.before (refused.note ∷ left);
  is = refused.is;
}

-- and it has notes only if they are asked for
some-where-asked : (asked : Bool) (ns : List Note) → 0 < length (if asked then ns else []) → asked ≡ true
some-where-asked true ns some = refl
some-where-asked false ns some = absurd (omega arith)

pub asked-is : (options : PolicyOptions) (r : Recording) (v : SessionView) → v.mode ≡ mode_of options r →
    Holds options.policy v (history options.policy v.mode (events_of r.events)) nothing → 0 < length v.notes → options.log ≡ true
asked-is options r v mode holds some =
    ap (λ (m : Mode). m.notes) (sym mode) ∙ some-where-asked v.mode.notes (notes options.policy (history options.policy v.mode (events_of r.events))) (subst (λ ns. 0 < length ns) holds.noted some)

-- and its notes are those of the history, if they are asked for
asked-notes : (asked : Bool) (ns : List Note) → asked ≡ true → (if asked then ns else []) ≡ ns
asked-notes asked ns is = ap (λ b. if b then ns else []) is

pub noted-is : (options : PolicyOptions) (r : Recording) (v : SessionView) → v.mode ≡ mode_of options r →
    Holds options.policy v (history options.policy v.mode (events_of r.events)) nothing → options.log ≡ true → v.notes ≡ notes options.policy (history_of (with_log options) r)
noted-is options r v mode holds asked = holds.noted
    ∙ ap (λ m. if m.notes then notes options.policy (history options.policy m (events_of r.events)) else []) mode
    ∙ asked-notes options.log (notes options.policy (history_of options r)) asked
    ∙ ap (λ asks. notes options.policy (history_of (noting_as asks options) r)) asked

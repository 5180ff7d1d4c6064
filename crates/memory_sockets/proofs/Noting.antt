-- A call more among the notes.
use Rattle.std.proofs.Common.{◌≡◌, Bool, true, false, List, [], ◌∷◌, ◌++◌, refl, ap, ◌∙◌, reverse}
use Rattle.std.proofs.lemmas.List.{reverse-append}
use Rattle.proxy_net.specs.SystemCalls.{SystemCall, Tells}
use Rattle.memory_sockets.specs.Notes.{call_of, calls_of, journal_if}
use Rattle.memory_sockets.specs.declared.notes.Noted.{Noted}

calls_of-append : (notes : List Noted) (noted : Noted) → calls_of (notes ++ noted ∷ []) ≡ calls_of notes ++ call_of noted.note noted.bytes.items noted.reports.items ∷ []
calls_of-append [] noted = refl
calls_of-append (first ∷ notes) noted = ap (λ (calls : List SystemCall). call_of first.note first.bytes.items first.reports.items ∷ calls) (calls_of-append notes noted)

-- the newest call is the first
pub reverse-calls_of : (notes now : List Noted) (noted : Noted) → now ≡ notes ++ noted ∷ [] →
    reverse (calls_of now) ≡ call_of noted.note noted.bytes.items noted.reports.items ∷ reverse (calls_of notes)
reverse-calls_of notes now noted e =
    ap (λ (ns : List Noted). reverse (calls_of ns)) e
    ∙ ap reverse (calls_of-append notes noted)
    ∙ reverse-append (calls_of notes) (call_of noted.note noted.bytes.items noted.reports.items ∷ [])

-- one more call is in the journal, if the calls before it are
pub tells-more : (told tells : Bool) (old new : List SystemCall) (call : SystemCall) → tells ≡ told → new ≡ call ∷ old →
    Tells (journal_if told old) (journal_if tells new) (call ∷ [])
tells-more true true old new call t n = record { told = λ after e. (old, refl, cc) }
tells-more false false old new call t n = record { told = λ after e. absurd cc }
tells-more true false old new call t n = record { told = λ after e. absurd cc }
tells-more false true old new call t n = record { told = λ after e. absurd cc }

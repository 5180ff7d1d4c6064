-- Worked examples of the authentication phase.
use Rattle.std.specs.Prelude.{◌≡◌, ℕ, true, false, List, [], ◌∷◌, ◌++◌, codes, refl, map, None}
use Rattle.sasl_watch.specs.Lines.{client_lines, client_fault, after_begin, asked, has_begun, bus_lines, after_lines, bus_fault, for_bus, line_fault, crlf, joined}
use Rattle.sasl_watch.specs.declared.LineKind.TheVariants.{NoNul, EarlyBus, Agreed, BadByte}

abbrev line : List ℕ → List ℕ
line text = text ++ crlf

no_nul : client_fault (65 ∷ []) ≡ line_fault NoNul 0
no_nul = refl

early : bus_fault 0 false (79 ∷ []) ≡ line_fault EarlyBus 0
early = refl

-- one line was asked for
agreed : bus_fault 1 false (line (codes "AGREE_UNIX_FD")) ≡ line_fault Agreed 14
agreed = refl

agreed_lines : bus_lines 1 (line (codes "AGREE_UNIX_FD")) ≡ []
agreed_lines = refl

refused : map for_bus (client_lines (0 ∷ line (codes "NEGOTIATE_UNIX_FD"))) ≡ (0 ∷ []) ∷ line (codes "NO_UNIX_FD") ∷ []
refused = refl

-- what follows BEGIN in its line isn't sent on
begun_alone : map for_bus (line (codes "BEGIN now") ∷ line (codes "BEGIN ") ∷ line (codes "BEGINS") ∷ []) ≡ line (codes "BEGIN") ∷ line (codes "BEGIN") ∷ line (codes "BEGINS") ∷ []
begun_alone = refl

not_begun : has_begun (0 ∷ line (codes "DATA BEGIN")) ≡ false
not_begun = refl

phase : List ℕ
phase = 0 ∷ line (codes "AUTH EXTERNAL") ++ line (codes "DATA") ++ line (codes "NEGOTIATE_UNIX_FD") ++ line (codes "BEGIN") ++ 108 ∷ 1 ∷ []

phase_lines : joined (map for_bus (client_lines phase)) ≡ 0 ∷ line (codes "AUTH EXTERNAL") ++ line (codes "DATA") ++ line (codes "NO_UNIX_FD") ++ line (codes "BEGIN")
unfolding phase
phase_lines = refl

phase_rest : (after_begin phase ≡ 108 ∷ 1 ∷ []) × (asked phase ≡ 3) × (client_fault phase ≡ None)
unfolding phase
phase_rest = (refl, refl, refl)

answers : List ℕ
answers = line (codes "DATA") ++ line (codes "OK 00") ++ 108 ∷ 2 ∷ []

answers_cut : (bus_lines 2 answers ≡ line (codes "DATA") ∷ line (codes "OK 00") ∷ []) × (after_lines 2 answers ≡ 108 ∷ 2 ∷ []) × (bus_fault 2 true answers ≡ None) × (bus_fault 2 false answers ≡ line_fault EarlyBus 13)
unfolding answers
answers_cut = (refl, refl, refl, refl)

bad_bytes : map client_fault ((0 ∷ 65 ∷ 10 ∷ []) ∷ (0 ∷ 65 ∷ 13 ∷ 13 ∷ []) ∷ (0 ∷ 127 ∷ []) ∷ (0 ∷ 65 ∷ 13 ∷ []) ∷ []) ≡ line_fault BadByte 2 ∷ line_fault BadByte 3 ∷ line_fault BadByte 1 ∷ None ∷ []
bad_bytes = refl

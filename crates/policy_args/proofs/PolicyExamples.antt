-- Worked examples of entries and levels.
use Rattle.std.specs.Prelude.{◌≡◌, true, false, [], ◌∷◌, codes, refl, map, Some, None}
use Rattle.policy_args.specs.declared.Level.TheVariants.{None as NoLevel, See, Talk, Own}
use Rattle.policy_args.specs.declared.entry.Entry.{Entry}
use Rattle.policy_args.specs.declared.entry.Grant.TheVariants.{See as to_see, Talk as to_talk, Own as to_own, Call as to_call, Broadcast as to_broadcast, Property as to_property}
use Rattle.policy_args.specs.Policy.{entry_word, level, policy_of, with_entry}

see_a : Entry
see_a = record { pattern = record { name = codes "org.a"; exact = false }; grant = to_see }

talk_T : Entry
talk_T = record { pattern = record { name = codes "org.a.T"; exact = true }; grant = to_talk }

own_O : Entry
own_O = record { pattern = record { name = codes "org.o.O"; exact = true }; grant = to_own }

call_C : Entry
call_C = record { pattern = record { name = codes "org.c.C"; exact = true }; grant = to_call (record { text = codes "*"; interface = None; member = None; path = None; below = false }) }

broadcast_B : Entry
broadcast_B = record { pattern = record { name = codes "org.b.B"; exact = true }; grant = to_broadcast (record { text = codes "@/p/*"; interface = None; member = None; path = Some (codes "/p"); below = true }) }

property_P : Entry
property_P = record { pattern = record { name = codes "org.p"; exact = false }; grant = to_property (record { text = codes "org.p.I.*@/p"; interface = codes "org.p.I"; property = None; path = Some (codes "/p"); below = false }) }

words_as_given : map entry_word (see_a ∷ talk_T ∷ own_O ∷ call_C ∷ broadcast_B ∷ property_P ∷ []) ≡ codes "--see=org.a.*" ∷ codes "--talk=org.a.T" ∷ codes "--own=org.o.O" ∷ codes "--call=org.c.C=*" ∷ codes "--broadcast=org.b.B=@/p/*" ∷ codes "--property=org.p.*=org.p.I.*@/p" ∷ []
unfolding see_a talk_T own_O call_C broadcast_B property_P
words_as_given = refl

kept_once : with_entry (talk_T ∷ see_a ∷ []) talk_T ≡ talk_T ∷ see_a ∷ []
unfolding talk_T see_a
kept_once = refl

-- the greatest level counts, and the bus itself may always be talked to
levels : map (level (policy_of (see_a ∷ talk_T ∷ own_O ∷ call_C ∷ broadcast_B ∷ property_P ∷ []))) (codes "org.a.T" ∷ codes "org.a.B" ∷ codes "org.a" ∷ codes "org.o.O" ∷ codes "org.c.C" ∷ codes "org.b.B" ∷ codes "org.p.P" ∷ codes "org.h.X" ∷ codes "org.freedesktop.DBus" ∷ []) ≡ Talk ∷ See ∷ See ∷ Own ∷ See ∷ See ∷ See ∷ NoLevel ∷ Talk ∷ []
unfolding see_a talk_T own_O call_C broadcast_B property_P level
levels = refl

own_all : Entry
own_all = record { pattern = record { name = codes "org.freedesktop"; exact = false }; grant = to_own }

bus_owned : level (policy_of (own_all ∷ [])) (codes "org.freedesktop.DBus") ≡ Own
unfolding own_all level
bus_owned = refl

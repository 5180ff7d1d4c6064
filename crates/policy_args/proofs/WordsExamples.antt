-- Worked examples of options, of lines and of files.
use Rattle.std.specs.Prelude.{◌≡◌, ℕ, true, false, List, [], ◌∷◌, ◌++◌, codes, refl, map, Some, None, Result, Ok, Err}
use Rattle.std.specs.Char.{encode_utf8}
use Rattle.std.specs.Str.{chars, is_utf8}
use Rattle.call_rules.specs.Rules.{Rule}
use Rattle.policy_args.specs.declared.BadWord.{BadWord}
use Rattle.policy_args.specs.declared.Level.TheVariants.{None as NoLevel, See}
use Rattle.policy_args.specs.declared.WordKind.{WordKind}
use Rattle.policy_args.specs.declared.WordKind.TheVariants.{BadAddress, BadName, BadNumber, BadRule, NoPath, OptionBeforeAddress, UnknownOption}
use Rattle.policy_args.specs.declared.entry.Entry.{Entry}
use Rattle.policy_args.specs.declared.entry.Grant.TheVariants.{See as to_see, Talk as to_talk, Own as to_own, Call as to_call, Broadcast as to_broadcast, Property as to_property}
use Rattle.policy_args.specs.Addresses.{bus_path}
use Rattle.policy_args.specs.Policy.{level, policy_of, policy_with}
use Rattle.policy_args.specs.ProxyLine.{descriptor_of, line_of, sessions_of}
use Rattle.policy_args.specs.Words.{entry_of, no_options, options_of, words_in}

abbrev bad : {A : Type 0} → ℕ → WordKind → Result A BadWord
bad index kind = Err (record { index = index; kind = kind })

-- ---- options

talk_T : Entry
talk_T = record { pattern = record { name = codes "org.a.T"; exact = true }; grant = to_talk }

see_a : Entry
see_a = record { pattern = record { name = codes "org.a"; exact = false }; grant = to_see }

own_org : Entry
own_org = record { pattern = record { name = codes "org"; exact = false }; grant = to_own }

-- of any member at any path
any : List ℕ → Rule
any text = record { text = text; interface = None; member = None; path = None; below = false }

call_C : List ℕ → Entry
call_C text = record { pattern = record { name = codes "org.a.C"; exact = true }; grant = to_call (any text) }

broadcast_B : Entry
broadcast_B = record { pattern = record { name = codes "org.a.B"; exact = true }; grant = to_broadcast (any []) }

entries : map entry_of (codes "--see=org.a.*" ∷ codes "--talk=org.a.T" ∷ codes "--own=org.*" ∷ codes "--call=org.a.C=*" ∷ codes "--broadcast=org.a.B=" ∷ [])
    ≡ Ok see_a ∷ Ok talk_T ∷ Ok own_org ∷ Ok (call_C (codes "*")) ∷ Ok broadcast_B ∷ []
unfolding see_a talk_T own_org call_C broadcast_B any
entries = refl

-- one property at one path
property_C : Entry
property_C = record {
  pattern = record { name = codes "org.a.C"; exact = true };
  grant = to_property (record { text = codes "org.a.I.Volume@/p"; interface = codes "org.a.I"; property = Some (codes "Volume"); path = Some (codes "/p"); below = false });
}

properties : map entry_of (codes "--property=org.a.C=org.a.I.Volume@/p" ∷ codes "--property=org.a.C=Volume" ∷ codes "--property=1=org.a.I.V" ∷ codes "--property=org.a.C" ∷ codes "--property=org.a.C=*" ∷ [])
    ≡ Ok property_C ∷ Err BadRule ∷ Err BadName ∷ Err BadRule ∷ Err BadRule ∷ []
unfolding property_C
properties = refl

-- their names are seen
properties_seen : map (level (policy_of (property_C ∷ []))) (codes "org.a.C" ∷ codes "org.a.D" ∷ []) ≡ See ∷ NoLevel ∷ []
unfolding property_C level
properties_seen = refl

beside_a_call : options_of (codes "--call=org.a.C=*" ∷ codes "--property=org.a.C=org.a.I.Volume@/p" ∷ codes "--call=org.a.C=*" ∷ codes "--property=org.a.C=org.a.I.Volume@/p" ∷ [])
    ≡ Ok (record { filter = false; log = false; policy = policy_of (call_C (codes "*") ∷ property_C ∷ []) })
unfolding options_of call_C any property_C
beside_a_call = refl

-- NAME is checked first, whatever follows
no_entries : map entry_of (codes "--call=org.a.C" ∷ codes "--call=org=x" ∷ codes "--call=org.a.C=Foo" ∷ codes "--see=org" ∷ codes "--talk=*" ∷ codes "--own=:1.5" ∷ codes "--sessions=1" ∷ codes "--filter" ∷ [])
    ≡ Err BadRule ∷ Err BadName ∷ Err BadRule ∷ Err BadName ∷ Err BadName ∷ Err BadName ∷ Err UnknownOption ∷ Err UnknownOption ∷ []
no_entries = refl

no_words : options_of [] ≡ Ok (record { filter = false; log = false; policy = policy_of [] })
unfolding options_of
no_words = refl

filter_alone : options_of (codes "--filter" ∷ []) ≡ Ok (record { filter = true; log = false; policy = policy_of [] })
unfolding options_of
filter_alone = refl

log_alone : options_of (codes "--log" ∷ []) ≡ Ok (record { filter = false; log = true; policy = policy_of [] })
unfolding options_of
log_alone = refl

log_of_filter : options_of (codes "--log" ∷ codes "--filter" ∷ codes "--log" ∷ []) ≡ Ok (record { filter = true; log = true; policy = policy_of [] })
unfolding options_of
log_of_filter = refl

-- giving an option twice is the same as once, and neither gives an entry
truth_values : options_of (codes "--sloppy-names" ∷ codes "--talk=org.a.T" ∷ codes "--sloppy-names" ∷ codes "--known-fields" ∷ codes "--start-called" ∷ []) ≡ Ok (record { filter = false; log = false; policy = policy_with (talk_T ∷ []) true true true })
unfolding options_of talk_T
truth_values = refl

sloppy_alone : options_of (codes "--sloppy-names" ∷ []) ≡ Ok (record { filter = false; log = false; policy = policy_with [] true false false })
unfolding options_of
sloppy_alone = refl

given_again : options_of (codes "--talk=org.a.T" ∷ codes "--filter" ∷ codes "--see=org.a.*" ∷ codes "--talk=org.a.T" ∷ []) ≡ Ok (record { filter = true; log = false; policy = policy_of (talk_T ∷ see_a ∷ []) })
unfolding options_of talk_T see_a
given_again = refl

-- two words of one meaning are two entries
two_spellings : options_of (codes "--call=org.a.C=" ∷ codes "--call=org.a.C=*" ∷ codes "--call=org.a.C=" ∷ []) ≡ Ok (record { filter = false; log = false; policy = policy_of (call_C [] ∷ call_C (codes "*") ∷ []) })
unfolding options_of call_C any
two_spellings = refl

bad_options : map options_of ((codes "--talk=org" ∷ []) ∷ (codes "--filter" ∷ codes "--talk=:1.5" ∷ []) ∷ (codes "--talk=" ∷ []) ∷ (codes "--filter" ∷ codes "--colour" ∷ codes "--talk=org" ∷ []) ∷ (codes "--talk" ∷ []) ∷ (codes "--log=" ∷ []) ∷ (codes "--filter=" ∷ []) ∷ ([] ∷ []) ∷ [])
    ≡ bad 0 BadName ∷ bad 1 BadName ∷ bad 0 BadName ∷ bad 1 UnknownOption ∷ bad 0 UnknownOption ∷ bad 0 UnknownOption ∷ bad 0 UnknownOption ∷ bad 0 UnknownOption ∷ []
unfolding options_of
bad_options = refl

-- ---- addresses

addresses : map bus_path (codes "unix:path=/a" ∷ codes "unix:abstract=/x;unix:path=/a%20b" ∷ codes "tcp:host=h;unix:guid=1,path=/q" ∷ codes "unix:path=/a,path=/b" ∷ codes "unix:path=/a%e2%82%AC" ∷ [])
    ≡ Some (codes "/a") ∷ Some (codes "/a b") ∷ Some (codes "/q") ∷ Some (codes "/a") ∷ Some (47 ∷ 97 ∷ 226 ∷ 130 ∷ 172 ∷ []) ∷ []
unfolding is_utf8 chars encode_utf8
addresses = refl

no_addresses : map bus_path ([] ∷ codes "tcp:path=/a" ∷ codes "unix:path=" ∷ codes "unix:path=/a%2" ∷ codes "unix:path=/a%2g" ∷ codes "unix:path=/a%00" ∷ codes "unix:path=/a%ff" ∷ codes "unix:path=;unix:path=/b" ∷ []) ≡ None ∷ None ∷ None ∷ None ∷ None ∷ None ∷ None ∷ None ∷ []
unfolding is_utf8 chars encode_utf8
no_addresses = refl

-- ---- lines

numbers : map sessions_of (codes "1" ∷ codes "1000000" ∷ codes "1000001" ∷ codes "0" ∷ codes "01" ∷ codes "+1" ∷ [] ∷ []) ≡ Ok 1 ∷ Ok 1000000 ∷ Err BadNumber ∷ Err BadNumber ∷ Err BadNumber ∷ Err BadNumber ∷ Err BadNumber ∷ []
numbers = refl

one_block : line_of (codes "unix:path=/run/user/1000/bus,guid=00" ∷ codes "/tmp/p" ∷ codes "--filter" ∷ codes "--talk=org.a.T" ∷ codes "--talk=org.a.T" ∷ codes "--see=org.a.*" ∷ [])
    ≡ Ok (record { blocks = record { address = codes "/run/user/1000/bus"; path = codes "/tmp/p"; options = record { filter = true; log = false; policy = policy_of (talk_T ∷ see_a ∷ []) } } ∷ []; sessions = 4294967295; record_to = None; starter = None; replaces = false })
unfolding line_of talk_T see_a is_utf8 chars encode_utf8
one_block = refl

-- each block has its own options, and the last --sessions counts
two_blocks : line_of (codes "unix:path=/a" ∷ codes "/p" ∷ codes "--filter" ∷ codes "--sessions=2" ∷ codes "unix:path=/b" ∷ codes "/q" ∷ codes "--talk=org.a.T" ∷ codes "--sessions=3" ∷ [])
    ≡ Ok (record { blocks = record { address = codes "/a"; path = codes "/p"; options = record { filter = true; log = false; policy = policy_of [] } } ∷ record { address = codes "/b"; path = codes "/q"; options = record { filter = false; log = false; policy = policy_of (talk_T ∷ []) } } ∷ []; sessions = 3; record_to = None; starter = None; replaces = false })
unfolding line_of talk_T is_utf8 chars encode_utf8
two_blocks = refl

abbrev after : List (List ℕ) → List (List ℕ)
after words = codes "unix:path=/a" ∷ codes "/p" ∷ words

bad_lines : map line_of ([] ∷ (codes "--filter" ∷ []) ∷ (codes "tcp:path=/a" ∷ []) ∷ (codes "unix:path=/a" ∷ []) ∷ (codes "unix:path=/a" ∷ codes "--log" ∷ []) ∷ (codes "unix:path=/a" ∷ [] ∷ []) ∷ [])
    ≡ bad 0 BadAddress ∷ bad 0 OptionBeforeAddress ∷ bad 0 BadAddress ∷ bad 1 NoPath ∷ bad 1 NoPath ∷ bad 1 NoPath ∷ []
unfolding line_of is_utf8 chars encode_utf8
bad_lines = refl

bad_words : map line_of (after (codes "--talk=org" ∷ []) ∷ after (codes "--call=org.a.C=Foo" ∷ []) ∷ after (codes "--colour" ∷ []) ∷ after (codes "--sessions=0" ∷ []) ∷ after (codes "unix:path=" ∷ []) ∷ after (codes "unix:path=/b" ∷ []) ∷ [])
    ≡ bad 2 BadName ∷ bad 2 BadRule ∷ bad 2 UnknownOption ∷ bad 2 BadNumber ∷ bad 2 BadAddress ∷ bad 3 NoPath ∷ []
unfolding line_of is_utf8 chars encode_utf8
bad_words = refl

-- --record may be in any block, and the last one counts; its FILE isn't empty, and it is no word of a policy file
recorded : line_of (after (codes "--record=/a" ∷ codes "unix:path=/b" ∷ codes "/q" ∷ codes "--record=/b=c" ∷ []))
    ≡ Ok (record { blocks = record { address = codes "/a"; path = codes "/p"; options = record { filter = false; log = false; policy = policy_of [] } } ∷ record { address = codes "/b"; path = codes "/q"; options = record { filter = false; log = false; policy = policy_of [] } } ∷ []; sessions = 4294967295; record_to = Some (codes "/b=c"); starter = None; replaces = false })
unfolding line_of is_utf8 chars encode_utf8
recorded = refl

not_recorded : map line_of (after (codes "--record=" ∷ []) ∷ after (codes "--record" ∷ []) ∷ (codes "--record=/a" ∷ []) ∷ []) ≡ bad 2 UnknownOption ∷ bad 2 UnknownOption ∷ bad 0 OptionBeforeAddress ∷ []
unfolding line_of is_utf8 chars encode_utf8
not_recorded = refl

-- --fd and --replace may be in any block and before the first, and the last --fd counts
started : line_of (codes "--fd=35" ∷ codes "--replace" ∷ after (codes "--fd=0" ∷ []))
    ≡ Ok (record { blocks = record { address = codes "/a"; path = codes "/p"; options = no_options } ∷ []; sessions = 4294967295; record_to = None; starter = Some 0; replaces = true })
unfolding line_of is_utf8 chars encode_utf8
started = refl

descriptors : map descriptor_of (codes "0" ∷ codes "7" ∷ codes "99999" ∷ codes "2147483647" ∷ codes "2147483648" ∷ codes "01" ∷ codes "00" ∷ codes "x" ∷ codes "1x" ∷ codes "-1" ∷ [] ∷ [])
    ≡ Some 0 ∷ Some 7 ∷ Some 99999 ∷ Some 2147483647 ∷ None ∷ None ∷ None ∷ None ∷ None ∷ None ∷ None ∷ []
descriptors = refl

not_started : map line_of (after (codes "--fd=x" ∷ []) ∷ (codes "--fd=" ∷ []) ∷ after (codes "--fd" ∷ []) ∷ after (codes "--replace=x" ∷ []) ∷ (codes "--replace=x" ∷ []) ∷ [])
    ≡ bad 2 BadNumber ∷ bad 0 BadNumber ∷ bad 2 UnknownOption ∷ bad 2 UnknownOption ∷ bad 0 OptionBeforeAddress ∷ []
unfolding line_of is_utf8 chars encode_utf8
not_started = refl

-- three words before the first ADDRESS hold for every block
for_all : line_of (codes "--start-called" ∷ codes "--known-fields" ∷ codes "--sloppy-names" ∷ after (codes "--filter" ∷ codes "unix:path=/b" ∷ codes "/q" ∷ codes "--talk=org.a.T" ∷ []))
    ≡ Ok (record { blocks = record { address = codes "/a"; path = codes "/p"; options = record { filter = true; log = false; policy = policy_with [] true true true } } ∷ record { address = codes "/b"; path = codes "/q"; options = record { filter = false; log = false; policy = policy_with (talk_T ∷ []) true true true } } ∷ []; sessions = 4294967295; record_to = None; starter = None; replaces = false })
unfolding line_of talk_T is_utf8 chars encode_utf8
for_all = refl

-- .. and in a block only for that block
for_one : line_of (codes "--known-fields" ∷ after (codes "--sloppy-names" ∷ codes "unix:path=/b" ∷ codes "/q" ∷ []))
    ≡ Ok (record { blocks = record { address = codes "/a"; path = codes "/p"; options = record { filter = false; log = false; policy = policy_with [] true true false } } ∷ record { address = codes "/b"; path = codes "/q"; options = record { filter = false; log = false; policy = policy_with [] false true false } } ∷ []; sessions = 4294967295; record_to = None; starter = None; replaces = false })
unfolding line_of is_utf8 chars encode_utf8
for_one = refl

not_for_all : map line_of ((codes "--talk=org.a.T" ∷ []) ∷ (codes "--sloppy-names" ∷ codes "--log" ∷ []) ∷ (codes "--sessions=1" ∷ []) ∷ (codes "--sloppy-names" ∷ []) ∷ [])
    ≡ bad 0 OptionBeforeAddress ∷ bad 1 OptionBeforeAddress ∷ bad 0 OptionBeforeAddress ∷ bad 1 BadAddress ∷ []
unfolding line_of is_utf8 chars encode_utf8
not_for_all = refl

-- --args is no option of a line
no_args : map line_of ((codes "--args=7" ∷ []) ∷ after (codes "--args=7" ∷ []) ∷ (codes "--args=x" ∷ []) ∷ after (codes "--args=07" ∷ []) ∷ [])
    ≡ bad 0 OptionBeforeAddress ∷ bad 2 UnknownOption ∷ bad 0 BadNumber ∷ bad 2 BadNumber ∷ []
unfolding line_of is_utf8 chars encode_utf8
no_args = refl

-- ---- files

two_words : map words_in ((codes "--filter" ++ 0 ∷ codes "--talk=a.b" ++ 0 ∷ []) ∷ (codes "--filter" ++ 0 ∷ codes "--talk=a.b") ∷ []) ≡ Ok (codes "--filter" ∷ codes "--talk=a.b" ∷ []) ∷ Ok (codes "--filter" ∷ codes "--talk=a.b" ∷ []) ∷ []
unfolding words_in is_utf8 chars encode_utf8
two_words = refl

empty_words : map words_in ([] ∷ (0 ∷ []) ∷ (0 ∷ 0 ∷ []) ∷ (0 ∷ 97 ∷ []) ∷ []) ≡ Ok [] ∷ Ok ([] ∷ []) ∷ Ok ([] ∷ [] ∷ []) ∷ Ok ([] ∷ (97 ∷ []) ∷ []) ∷ []
unfolding words_in is_utf8 chars encode_utf8
empty_words = refl

no_text : words_in (97 ∷ 0 ∷ 98 ∷ 255 ∷ 0 ∷ 254 ∷ []) ≡ bad 1 UnknownOption
unfolding words_in is_utf8 chars encode_utf8
no_text = refl

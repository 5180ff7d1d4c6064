use Rattle.std.proofs.Common.{[], ◌∷◌}
use Rattle.policy_args.specs.Seen.{options_seen}
use Rattle.proxy_main.proofs.RecordingFiles.{within_loaded, within_needed, within_needed_until, within_needed_first, within_stops_first, within_stops_other, within_until}
use Rattle.proxy_main.proofs.ReadFiles.{policy_stops}
use Rattle.proxy_main.proofs.files.load_policies.Goals as goal

pub returns-in-Ok-load_policy-clause-loaded : goal.returns-in-Ok-load_policy-clause-loaded
returns-in-Ok-load_policy-clause-loaded g c =
    within_loaded (g.F.Files.view c.args.files.now).told c.args.one.now c.args.other.now _ (c.load_policy.ensures.kept c.args.other.now) (options_seen c.in-Ok.one) c.in-Ok.ensures.loads
    (options_seen c.in-Ok-load_policy.other) c.in-Ok-load_policy.ensures.loads

pub returns-in-Ok-load_policy-clause-needed : goal.returns-in-Ok-load_policy-clause-needed
returns-in-Ok-load_policy-clause-needed g c =
    within_needed (g.F.Files.view c.args.files.now).told c.args.one.now c.args.other.now _ (c.load_policy.ensures.kept c.args.other.now) (options_seen c.in-Ok.one) c.in-Ok.ensures.loads
    (g.F.Files.view c.args.files.now).reads (g.F.Files.view c.load_policy.new.files).reads (g.F.Files.view c.load_policy-in-Ok.new.files).reads c.load_policy.ensures.read c.load_policy-in-Ok.ensures.read

pub returns-in-Err-load_policy-clause-stops : goal.returns-in-Err-load_policy-clause-stops
returns-in-Err-load_policy-clause-stops g c =
    within_stops_other (g.F.Files.view c.args.files.now).told c.args.one.now c.args.other.now _ (c.load_policy.ensures.kept c.args.other.now) (options_seen c.in-Ok.one) c.in-Ok.ensures.loads
    c.in-Err-load_policy.stop c.in-Err-load_policy.ensures.loads

pub returns-in-Err-load_policy-clause-until : goal.returns-in-Err-load_policy-clause-until
returns-in-Err-load_policy-clause-until g c =
    within_until (g.F.Files.view c.args.files.now).told c.args.one.now c.args.other.now _ (c.load_policy.ensures.kept c.args.other.now) (options_seen c.in-Ok.one) c.in-Ok.ensures.loads
    (g.F.Files.view c.args.files.now).reads (g.F.Files.view c.load_policy.new.files).reads (g.F.Files.view c.load_policy-in-Ok.new.files).reads c.load_policy.ensures.read c.load_policy-in-Ok.ensures.read
    c.in-Err-load_policy.stop c.in-Err-load_policy.ensures.at

pub returns-in-Err-load_policy-clause-needed : goal.returns-in-Err-load_policy-clause-needed
returns-in-Err-load_policy-clause-needed g c =
    within_needed_until (g.F.Files.view c.args.files.now).told c.args.one.now c.args.other.now _ (c.load_policy.ensures.kept c.args.other.now) (options_seen c.in-Ok.one) c.in-Ok.ensures.loads
    (g.F.Files.view c.args.files.now).reads (g.F.Files.view c.load_policy.new.files).reads (g.F.Files.view c.load_policy-in-Ok.new.files).reads c.load_policy.ensures.read c.load_policy-in-Ok.ensures.read
    c.in-Err-load_policy.stop

pub returns-in-Err-clause-stops : goal.returns-in-Err-clause-stops
returns-in-Err-clause-stops g c = within_stops_first (g.F.Files.view c.args.files.now).told c.args.one.now c.args.other.now c.in-Err.stop c.in-Err.ensures.loads

pub returns-in-Err-clause-until : goal.returns-in-Err-clause-until
returns-in-Err-clause-until g c =
    policy_stops 1 (c.args.other.now ∷ []) (g.F.Files.view c.args.files.now).reads (g.F.Files.view c.load_policy.new.files).reads c.args.one.now c.load_policy.ensures.read c.in-Err.stop c.in-Err.ensures.at

pub returns-in-Err-clause-needed : goal.returns-in-Err-clause-needed
returns-in-Err-clause-needed g c =
    within_needed_first (g.F.Files.view c.args.files.now).told c.args.one.now c.args.other.now (g.F.Files.view c.args.files.now).reads (g.F.Files.view c.load_policy.new.files).reads c.load_policy.ensures.read
    c.in-Err.stop c.in-Err.ensures.loads

-- The files, put in one after the other.
use Rattle.std.proofs.Common.{◌≡◌, List, ℕ, None, codes, refl, ap, ◌∙◌}
use Rattle.rt_outside.specs.Quiet.{Quiet, nothing_quiet, added_quietly}
use Rattle.trial_feed.specs.Files.{agency_text, stops_text, routes_text, trips_text, stop_times_text, trial_contents}

added_all : Quiet
added_all =
    added_quietly (added_quietly (added_quietly (added_quietly (added_quietly nothing_quiet
    (codes "trial/stop_times.txt") stop_times_text)
    (codes "trial/trips.txt") trips_text)
    (codes "trial/routes.txt") routes_text)
    (codes "trial/stops.txt") stops_text)
    (codes "trial/agency.txt") agency_text

is_held : added_all ≡ record { contents = trial_contents; place = None; asked = None }
unfolding added_all trial_contents
is_held = refl

pub all_held : (a b c d e f : Quiet) (trips stop_times : List ℕ) → a ≡ nothing_quiet
    → stop_times ≡ stop_times_text → trips ≡ trips_text
    → b ≡ added_quietly a (codes "trial/stop_times.txt") stop_times
    → c ≡ added_quietly b (codes "trial/trips.txt") trips
    → d ≡ added_quietly c (codes "trial/routes.txt") routes_text
    → e ≡ added_quietly d (codes "trial/stops.txt") stops_text
    → f ≡ added_quietly e (codes "trial/agency.txt") agency_text
    → f ≡ record { contents = trial_contents; place = None; asked = None }
unfolding added_all
all_held a b c d e f trips stop_times start s t at_b at_c at_d at_e at_f =
    let b_is : b ≡ added_quietly nothing_quiet (codes "trial/stop_times.txt") stop_times_text =
    at_b ∙ (λ i. added_quietly (start i) (codes "trial/stop_times.txt") (s i)) in
    let c_is : c ≡ added_quietly (added_quietly nothing_quiet (codes "trial/stop_times.txt") stop_times_text) (codes "trial/trips.txt") trips_text =
    at_c ∙ (λ i. added_quietly (b_is i) (codes "trial/trips.txt") (t i)) in
    at_f
    ∙ ap (λ q. added_quietly q (codes "trial/agency.txt") agency_text) (
    at_e ∙ ap (λ q. added_quietly q (codes "trial/stops.txt") stops_text) (
    at_d ∙ ap (λ q. added_quietly q (codes "trial/routes.txt") routes_text) c_is
    )
    )
    ∙ is_held

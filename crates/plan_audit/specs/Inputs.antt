-- The requests of an input that are heard: an input that is too long is heard as far as its limits.
use Rattle.std.specs.Prelude.{ℕ, List, if◌then◌else◌}
use Rattle.session_rules.specs.Requests.{Request, requests_of}
use Rattle.request_loop.specs.Serving.{heard_within, is_past_limit}

-- the requests of an input, or those that are whole within its limits where it is too long
unfoldable pub heard : List ℕ → List Request
heard input = if is_past_limit input then heard_within input else requests_of input

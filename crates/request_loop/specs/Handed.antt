-- What is written before a request is handed on, and when a session ends.
use Rattle.std.specs.Prelude.{◌≡◌, ◌⊎◌, ℕ, ◌≤◌, List, [], Option, Result, Ok, Err}
use Rattle.plan_schema.specs.declared.change.Change.{Change}
use Rattle.plan_schema.specs.Outside.{extended, TookFront, Rose}
use Rattle.plan_schema.specs.declared.outside.SinkFault.TheVariants as sinks
use Rattle.session_rules.specs.Requests.{Request, Makes}
use Rattle.byte_lines.specs.declared.rounds.Served.{Served}
use Rattle.byte_lines.specs.declared.rounds.Served.TheVariants as ends
use Rattle.request_loop.specs.declared.answers.Why.TheVariants as whys
use Rattle.request_loop.specs.declared.hear.Stop.{Stop}
use Rattle.request_loop.specs.declared.hear.Stop.TheVariants as stop

-- the page was written, which is so wherever a change was handed on; or all is as before
pub record IsCleared {K : Type 0} (taken : K → Option (List ℕ)) (sink sink_then : K) (page page_then : List ℕ) (request : Request) : Type 0 where
  pub either : ((page_then ≡ []) × (taken sink_then ≡ extended (taken sink) page)) ⊎ ((page_then ≡ page) × (taken sink_then ≡ taken sink))
  pub cleared : (change : Change) → request.wish ≡ Makes change → (page_then ≡ []) × (taken sink_then ≡ extended (taken sink) page)

-- a sink's count of faults doesn't fall, and rose where the sink failed; its label stays
pub record WriteCauses {T K : Type 0} (faults : K → ℕ) (label : K → List ℕ) (sink sink_then : K) (result : Result T Stop) : Type 0 where
  pub later : faults sink ≤ faults sink_then
  pub failed : result ≡ Err (stop.Sink sinks.Failed) → Rose (faults sink) (faults sink_then)
  pub same : label sink_then ≡ label sink

-- a session ended: a fault of the source is told only where the source's count rose, one of the sink only where the sink's rose
pub record Ending {S K : Type 0} (reads : S → ℕ) (source_label : S → List ℕ) (writes : K → ℕ) (sink_label : K → List ℕ) (source source_then : S) (sink sink_then : K) (served : Served) : Type 0 where
  pub reads_later : reads source ≤ reads source_then
  pub reads_failed : served ≡ ends.ReadFault → Rose (reads source) (reads source_then)
  pub source_same : source_label source_then ≡ source_label source
  pub writes_later : writes sink ≤ writes sink_then
  pub writes_failed : served ≡ ends.WriteFault → Rose (writes sink) (writes sink_then)
  pub sink_same : sink_label sink_then ≡ sink_label sink

-- how a session ends, where all that the page held was written
abbrev pub served_of : ℕ → Result (Unit {0}) Stop → Served
served_of requests (Ok done) = ends.Ended requests
served_of requests (Err stop.Quit) = ends.Ended requests
served_of requests (Err stop.Limit) = ends.Limit
served_of requests (Err (stop.Kept whys.Failed)) = ends.BookFault
served_of requests (Err (stop.Kept whys.Worn)) = ends.Worn
served_of requests (Err (stop.Sink sinks.Failed)) = ends.WriteFault
served_of requests (Err (stop.Sink sinks.Memory)) = ends.Memory

-- the page was written and the session ended so, or a front of the page was
abbrev pub IsFlushed : {K : Type 0} → (K → Option (List ℕ)) → K → K → List ℕ → Served → Served → Type 0
IsFlushed taken sink sink_then page served result = ((taken sink_then ≡ extended (taken sink) page) × (result ≡ served)) ⊎ (TookFront (taken sink) (taken sink_then) page × ((result ≡ ends.WriteFault) ⊎ (result ≡ ends.Memory)))

abbrev pub HasEnded : {K : Type 0} → (K → Option (List ℕ)) → K → K → List ℕ → ℕ → Result (Unit {0}) Stop → Served → Type 0
HasEnded taken sink sink_then page requests (Err (stop.Sink fault)) result = (taken sink_then ≡ taken sink) × (result ≡ served_of requests (Err (stop.Sink fault)))
HasEnded taken sink sink_then page requests (Ok done) result = IsFlushed taken sink sink_then page (ends.Ended requests) result
HasEnded taken sink sink_then page requests (Err stop.Quit) result = IsFlushed taken sink sink_then page (ends.Ended requests) result
HasEnded taken sink sink_then page requests (Err stop.Limit) result = IsFlushed taken sink sink_then page ends.Limit result
HasEnded taken sink sink_then page requests (Err (stop.Kept why)) result = IsFlushed taken sink sink_then page (served_of requests (Err (stop.Kept why))) result

-- The job that a request becomes.
use Rattle.std.proofs.Common.{◌≡◌, ℕ, List, [], ◌∷◌, Some, None, refl}
use Rattle.std.specs.List.{find}
use Rattle.rpc_laws.specs.declared.tables.Served.{Served}
use Rattle.rpc_laws.specs.declared.tables.Server.{Server}
use Rattle.rpc_laws.specs.Jobs.{job_of, new_job}
use Rattle.rpc_laws.specs.Requests.{is_request, is_server}

pub no-server : (t r : ℕ) (servers : List Server) → find (is_server t) servers ≡ None
    → new_job t r servers ≡ []
no-server t r servers e = rw e refl

pub no-request : (t r : ℕ) (servers : List Server) (v : Server) → find (is_server t) servers ≡ Some v
    → find (is_request r) v.slots ≡ None → new_job t r servers ≡ []
no-request t r servers v e h = rw (e, h) refl

pub a-job : (t r : ℕ) (servers : List Server) (v : Server) (q : Served)
    → find (is_server t) servers ≡ Some v → find (is_request r) v.slots ≡ Some q
    → new_job t r servers ≡ job_of t q ∷ []
a-job t r servers v q e h = rw (e, h) refl

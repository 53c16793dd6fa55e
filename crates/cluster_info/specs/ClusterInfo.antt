-- ClusterInfo on the code's state.
use Rattle.std.specs.Prelude.{ℕ, List}
use Rattle.model.specs.State.{Store}
use Rattle.model.specs.Reading.{Report, cluster_info_report}
use Rattle.state.specs.declared.state.State.{State}
use Rattle.state.specs.View.{view_state}

-- the model's report of a state and a lent buffer
abbrev pub model_cluster_info : State → Store → List ℕ → Report ℕ
model_cluster_info s store buffer = cluster_info_report (view_state s) store buffer

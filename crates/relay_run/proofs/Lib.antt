mod OpenLemmas
mod RelayLemmas
mod StartLemmas

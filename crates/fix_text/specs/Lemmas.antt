-- Lemmas that the laws of an `impl` cite, which may stand nowhere else. Nothing here has to be believed.
pub mod SinkLaws

pub mod MethodEnds
pub mod SimplexEnds

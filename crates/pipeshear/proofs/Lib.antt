mod Results
pub mod Program
